-- Paper 01, "Access halves" and "Invalidation", and the refusals that every command on an EF shares, in their order: "94 00 no EF;
-- 94 08 structure; 98 10 invalidation; 98 04 access".
use Rattle.std.specs.Prelude.{ℕ, ◌/◌, ◌%◌, List, ◌∷◌, Bool, ◌&&◌, ◌||◌, not, eqb, ltb, Option, Some, None}
use Rattle.card.specs.Layout.{code, file, disabled}
use Rattle.card.specs.Answers.{Refusal, ◌says◌}
use Rattle.card.specs.declared.Entry.{Entry}
use Rattle.card.specs.declared.Session.{Session}
use Rattle.card.specs.declared.Rights.{Rights}
use Rattle.card.specs.declared.Act.{Act}
use Rattle.card.specs.declared.Act.TheVariants.{Read, Seek, Update, Increase, Rehabilitate, Invalidate}

-- "1 if CHV1 has attempts left and is disabled or presented; 2 if CHV2 has attempts left and is presented"
unfoldable pub rights : List ℕ → Session → Rights
rights h s =
    record {
      level1 = ltb 0 (code h 0).attempts && (disabled (code h 0) || s.chv1);
      level2 = ltb 0 (code h 1).attempts && s.chv2;
    }

-- "Level 0 always"; 1 and 2 by their codes; "3 to F never here"
abbrev pub fulfilled : Rights → ℕ → Bool
fulfilled r n = eqb n 0 || (eqb n 1 && r.level1) || (eqb n 2 && r.level2)

-- "Access halves, high then low: READ and SEEK, UPDATE; INCREASE, 0; REHABILITATE, INVALIDATE"
abbrev pub level : Entry → Act → ℕ
level e Read = e.access1 / 16
level e Seek = e.access1 / 16
level e Update = e.access1 % 16
level e Increase = e.access2 / 16
level e Rehabilitate = e.access3 / 16
level e Invalidate = e.access3 % 16

abbrev pub allowed : Rights → Entry → Act → Bool
allowed r e a = fulfilled r (level e a)

-- "status b1 0 is invalidated"
abbrev pub valid : Entry → Bool
valid e = eqb (e.status % 2) 1

-- status b3: READ and UPDATE act all the same
abbrev pub usable : Entry → Bool
usable e = eqb (e.status / 4 % 2) 1

-- "Of the commands on an EF only SELECT and REHABILITATE then act, also READ and UPDATE where b3 is 1. INVALIDATE on an invalidated
-- file and REHABILITATE on a valid one are 98 10."
abbrev pub barred : Entry → Act → Bool
barred e Read = not (valid e || usable e)
barred e Seek = not (valid e)
barred e Update = not (valid e || usable e)
barred e Increase = not (valid e)
barred e Rehabilitate = valid e
barred e Invalidate = not (valid e)

-- whether the act suits the file's structure, invalidation, access; then what the command adds
unfoldable pub shared : Rights → Entry → Act → Bool → List Refusal → List Refusal
shared r e a suits more =
    not suits says 0x9408 ∷ barred e a says 0x9810 ∷ not (allowed r e a) says 0x9804 ∷ more

-- a command on the current file, by the file's number and its entry; "94 00 no EF" stands before all else
abbrev pub on_file : {A : Type 0} → List ℕ → Option ℕ → (ℕ → A) → (ℕ → Entry → A) → A
on_file h None refuse act = refuse 0x9400
on_file h (Some f) refuse act = act f (file h f)
