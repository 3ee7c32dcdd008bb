-- Laws of the commands on codes: when two tests agree, and each command by its test.
use Prim.Native.Nat.{ℕ, ◌+◌, ◌-◌, ◌%◌}
use mathlib.Core.Path.{◌≡◌, refl, sym, ap, ◌∙◌}
use mathlib.Core.List.{List, []}
use mathlib.Core.Bool.{Bool, true, false, not}
use native.Mathlib.Omega.{arith}
use lib.ListN.{length, drop, length-drop}
use lib.Seq.{take_all}
use borrow.Author.Tests.{eqb-true, eqb-false, not-false}
use Rattle.std.proofs.lemmas.Slice.Eq.{bytes_eq-Decides}
use Rattle.card.specs.Bytes.{part, same}
use Rattle.card.specs.Layout.{code_entry, disabled}
use Rattle.card.specs.Answers.{unless, reply, coded}
use Rattle.card.specs.Sessions.{dropped, presents}
use Rattle.card.specs.Codes.{Key, value, renewed, tested, verify, change, disable, enable, unblock}
use Rattle.card.specs.declared.Code.{Code}
use Rattle.card.specs.declared.Session.{Session}
use Rattle.code_tests.specs.Keys.{untestable}
use Rattle.card.proofs.Tests.{compared}
use Rattle.code_tests.proofs.Trials.{some}

-- two choices that agree where the test holds
agreeing : {A : Type 0} (t : Bool) (x y z : A) → (t ≡ true → x ≡ y)
    → ◌≡◌ {A = A} (elim t [ true ↦ x | false ↦ z ]) (elim t [ true ↦ y | false ↦ z ])
agreeing true x y z h = h refl
agreeing false x y z h = refl

-- what the entry becomes matters only where nothing refuses and the code is right
renewals : (e : List ℕ) (s : Session) (c : ℕ) (key : Key) (x : Bool) (given renewal other : List ℕ)
    → (x ≡ false → same (value key e) given ≡ true → renewal ≡ other)
    → tested e s c key x given renewal ≡ tested e s c key x given other
unfolding tested unless untestable
renewals e s c key x given renewal other h =
    agreeing _ _ _ _ (λ q. agreeing _ _ _ _ (λ p. ap (λ (l : List ℕ). coded l (reply [] 0x9000 (presents c (dropped s)))) (h (some key (code_entry e 0) x (sym (eqb-true _ _ q))).1 p)))

module _ (e : List ℕ) (s : Session) (c : ℕ) (given : List ℕ) where
  abbrev k : Code
  k = code_entry e 0

  -- a code that is given alone
  module _ (n : length given ≡ 8) where
    all : part given 0 8 ≡ given
    all = take_all 8 given (omega (arith, n))

    -- where it was right, it is the one that stands there
    own : (x : Bool) (f g : ℕ) → (x ≡ false → f ≡ g)
        → tested e s c Key.chv x given (renewed e f k.unblocks (value Key.chv e))
        ≡ tested e s c Key.chv x (part given 0 8) (renewed e g k.unblocks (part given 0 8))
    own x f g q =
        renewals e s c Key.chv x given (renewed e f k.unblocks (value Key.chv e)) (renewed e g k.unblocks given) (λ h p. simp (q h, (bytes_eq-Decides (value Key.chv e) given).0 (compared (value Key.chv e) given ∙ p)))
        ∙ simp all

    pub verified : verify e s c given ≡ tested e s c Key.chv (disabled k) (part given 0 8) (renewed e k.flags k.unblocks (part given 0 8))
    unfolding verify
    verified = own (disabled k) k.flags k.flags (λ h. refl)

    pub is_disabled : disable e s c given
        ≡ tested e s c Key.chv (disabled k) (part given 0 8) (renewed e (k.flags - k.flags % 2 + 1) k.unblocks (part given 0 8))
    unfolding disable
    is_disabled = own (disabled k) (k.flags + 1) (k.flags - k.flags % 2 + 1) (λ h. even k.flags (eqb-false _ _ h))
      where
        even : (n : ℕ) → (n % 2 ≡ 1 → ⊥) → n + 1 ≡ n - n % 2 + 1
        even n h = omega arith

    pub is_enabled : enable e s c given
        ≡ tested e s c Key.chv (not (disabled k)) (part given 0 8) (renewed e (k.flags - k.flags % 2) k.unblocks (part given 0 8))
    unfolding enable
    is_enabled = own (not (disabled k)) (k.flags - 1) (k.flags - k.flags % 2) (λ h. odd k.flags (eqb-true _ _ (not-false _ h)))
      where
        odd : (n : ℕ) → n % 2 ≡ 1 → n - 1 ≡ n - n % 2
        odd n h = omega arith

  -- a code that is given before a new one
  module _ (n : length given ≡ 16) where
    rest : part given 8 8 ≡ drop 8 given
    rest = take_all 8 (drop 8 given) (omega (arith, n, length-drop 8 given))

    pub changed : change e s c given ≡ tested e s c Key.chv (disabled k) (part given 0 8) (renewed e k.flags k.unblocks (part given 8 8))
    unfolding change
    changed = simp rest

    pub unblocked : unblock e s c given
        ≡ tested e s c Key.unblocking false (part given 0 8) (renewed e (k.flags - k.flags % 2) 10 (part given 8 8))
    unfolding unblock
    unblocked = simp rest
