-- The answer to an unknown operation, by the kind and the file's length: 6 where the kind has files of that length, else 5.
use Rattle.std.specs.Prelude.{ℕ, ◌≡◌, List, eqb, leb, length}
use Rattle.cases.specs.Choice.{choose}
use Rattle.cases.specs.Cases.{other}
use Rattle.cases.specs.declared.kinds.Kind.TheVariants.{Iccid, Imsi, Network, Services, Spn, Admin, Unknown}

pub record Lengths : Type 0 where
  pub iccid : (file : List ℕ) → other Iccid file ≡ choose (eqb (length file) 10) 6 5
  pub imsi : (file : List ℕ) → other Imsi file ≡ choose (eqb (length file) 9) 6 5
  pub network : (file : List ℕ) → other Network file ≡ choose (eqb (length file) 3) 6 5
  pub services : (file : List ℕ) → other Services file ≡ choose (leb 2 (length file)) 6 5
  pub spn : (file : List ℕ) → other Spn file ≡ choose (eqb (length file) 17) 6 5
  pub admin : (file : List ℕ) → other Admin file ≡ choose (leb 3 (length file)) 6 5
  pub unknown : (file : List ℕ) → other Unknown file ≡ 6
