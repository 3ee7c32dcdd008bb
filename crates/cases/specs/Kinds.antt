-- Kinds: 1 ICCID, 2 IMSI, 3 PLMN entry, 4 service table, 5 SPN, 6 administrative data.
use Rattle.std.specs.Prelude.{ℕ, eqb}
use Rattle.cases.specs.Choice.{choose}
use Rattle.cases.specs.declared.kinds.Kind.{Kind}
use Rattle.cases.specs.declared.kinds.Kind.TheVariants.{Iccid, Imsi, Network, Services, Spn, Admin, Unknown}

abbrev pub kind_of : ℕ → Kind
kind_of b =
    choose (eqb b 1) Iccid
    (choose (eqb b 2) Imsi
    (choose (eqb b 3) Network (choose (eqb b 4) Services (choose (eqb b 5) Spn (choose (eqb b 6) Admin Unknown)))))
