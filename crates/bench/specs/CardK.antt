-- Paper 01, "Bench card and run": "Card K: free memory 0, characteristics 13, four codes; CHV1 "1234" and CHV2 "5678" in ASCII, then four
-- FF each; unblock codes eight "1" and eight "2"; attempts 3 and 10, everything initialised, CHV1 enabled. Directories 3F00, 7F20.
-- Files, status 01, top 0: 2FE2 in 3F00 (10 bytes FF, access 04 00 44); in 7F20 6F07 (14 00 44, IMSI 001010123456789), 6F39 cyclic,
-- increase byte 40 (11 10 44), records 000005, 000003, and 6FE0 linear (04 00 44), records 0101, 0202, 0101."
use Rattle.std.specs.Prelude.{ℕ, List, [], ◌∷◌, ◌++◌, replicate}

-- a code's entry: both codes initialised, attempts 3 and 10
abbrev pub code : List ℕ → List ℕ → List ℕ
code chv unblock = 0xc0 ∷ 3 ∷ 10 ∷ 0 ∷ (chv ++ unblock)

abbrev pub codes : List ℕ
codes =
    0 ∷ 2
    ∷ (code (0x31 ∷ 0x32 ∷ 0x33 ∷ 0x34 ∷ replicate 4 0xff) (replicate 8 0x31)
    ++ code (0x35 ∷ 0x36 ∷ 0x37 ∷ 0x38 ∷ replicate 4 0xff) (replicate 8 0x32))

-- identifier, parent, characteristics, free memory, number of codes, a zero
abbrev pub directories : List ℕ
directories =
    0 ∷ 2
    ∷ 0x3f ∷ 0x00 ∷ 0 ∷ 0x13 ∷ 0 ∷ 0 ∷ 4 ∷ 0
    ∷ 0x7f ∷ 0x20 ∷ 0 ∷ 0x13 ∷ 0 ∷ 0 ∷ 4 ∷ 0 ∷ []

-- identifier, directory, structure, record length, increase, access, status, size, top, a zero
abbrev pub files : List ℕ
files =
    0 ∷ 4
    ∷ 0x2f ∷ 0xe2 ∷ 0 ∷ 0 ∷ 0 ∷ 0x00 ∷ 0x04 ∷ 0x00 ∷ 0x44 ∷ 1 ∷ 0 ∷ 10 ∷ 0 ∷ 0
    ∷ 0x6f ∷ 0x07 ∷ 1 ∷ 0 ∷ 0 ∷ 0x00 ∷ 0x14 ∷ 0x00 ∷ 0x44 ∷ 1 ∷ 0 ∷ 9 ∷ 0 ∷ 0
    ∷ 0x6f ∷ 0x39 ∷ 1 ∷ 3 ∷ 3 ∷ 0x40 ∷ 0x11 ∷ 0x10 ∷ 0x44 ∷ 1 ∷ 0 ∷ 6 ∷ 0 ∷ 0
    ∷ 0x6f ∷ 0xe0 ∷ 1 ∷ 1 ∷ 2 ∷ 0x00 ∷ 0x04 ∷ 0x00 ∷ 0x44 ∷ 1 ∷ 0 ∷ 6 ∷ 0 ∷ 0 ∷ []

-- the card whose 6F39 has these three bytes as record 1
abbrev pub card_with : ℕ → ℕ → ℕ → List ℕ
card_with a b c =
    codes ++ (directories ++ (files ++ (0 ∷ 31
    ∷ (replicate 10 0xff
    ++ (0x08 ∷ 0x09 ∷ 0x10 ∷ 0x10 ∷ 0x10 ∷ 0x32 ∷ 0x54 ∷ 0x76 ∷ 0x98
    ∷ a ∷ b ∷ c ∷ 0 ∷ 0 ∷ 3
    ∷ 0x01 ∷ 0x01 ∷ 0x02 ∷ 0x02 ∷ 0x01 ∷ 0x01 ∷ [])))))

abbrev pub card_k : List ℕ
card_k = card_with 0 0 5
