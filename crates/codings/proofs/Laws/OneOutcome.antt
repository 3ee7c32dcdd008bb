-- Any two outcomes that a promise admits are equal: one law for a decoder, and one for an encoder.
use Prim.Native.Nat.{ℕ}
use mathlib.Core.Path.{◌≡◌, ap, ◌∙◌, sym}
use mathlib.Core.List.{List}
use Rattle.std.specs.Prelude.{Result, Ok, Err}
use Rattle.fields.specs.declared.bytes.Bytes.TheInside.{Inside}
use Rattle.fields.proofs.Laws.Bytes.{one}
use Rattle.codings.specs.Answers.{Outcome}
use Rattle.codings.specs.Spn.{Provider, provider}
use Rattle.codings.specs.OneOutcome.{One, OneRead, OneWritten, Tells, Whole, counting, Named, OneOutcome}
use Rattle.codings.specs.declared.Refused.{Refused}
use Rattle.codings.proofs.Laws.Answers.{answer_of, value_of, refuses, codes, one_read, one_told}

read : {A : Type 0} (left : A) (o : Outcome A) → OneRead left o
read left o r s p q = one_read left r s (p ∙ sym q)

written : (o : Outcome (List ℕ)) → OneWritten o
written o v w p q = let e = one_told v.answer w.answer v.bytes w.bytes (p ∙ sym q) in λ i. record { answer = e.0 i; bytes = e.1 i }

-- what a clause sees of an answer in memory tells all of it
module _ {A B : Type 0} (Holds : A → Type 0) (seen : A → B) (left : B) (o : Outcome B)
    (same : (a b : A) → Holds a → Holds b → seen a ≡ seen b → a ≡ b) where
  in_memory : One (Result A Refused) (Tells Holds seen left o)
  in_memory (Ok a) (Ok b) p q = ap Ok (same a b p.0 q.0 (ap value_of (p.1 ∙ sym q.1)))
  in_memory (Ok a) (Err f) p q = absurd (refuses f (ap answer_of (p.1 ∙ sym q)))
  in_memory (Err e) (Ok b) p q = absurd (refuses e (ap answer_of (q.1 ∙ sym p)))
  in_memory (Err e) (Err f) p q = ap Err (codes e f (ap answer_of (p ∙ sym q)))

all_bytes : (n : ℕ) (a b : Inside n) → Whole n a → Whole n b → counting n a ≡ counting n b → a ≡ b
all_bytes n a b p q e =
    let k = one n a.bytes b.bytes a.count b.count p q e in
    λ i. record { bytes = k.0 i; count = k.1 i }

all_named : (a b : Named) → Whole 16 a.name → Whole 16 b.name
    → provider a.bit1 a.bit2 (counting 16 a.name) ≡ provider b.bit1 b.bit2 (counting 16 b.name) → a ≡ b
all_named a b p q e =
    let n = all_bytes 16 a.name b.name p q (ap (λ (x : Provider). x.name) e) in
    let b1 : a.bit1 ≡ b.bit1 = ap (λ (x : Provider). x.bit1) e in
    let b2 : a.bit2 ≡ b.bit2 = ap (λ (x : Provider). x.bit2) e in
    λ i. record { bit1 = b1 i; bit2 = b2 i; name = n i }

pub one_outcome : OneOutcome
one_outcome =
    record {
      iccid_decode = λ l. read _ _;
      iccid_encode = λ d room. written _;
      imsi_decode = λ l. read _ _;
      imsi_encode = λ d room. written _;
      network_decode = λ l. read _ _;
      network_encode = λ e room. written _;
      services_read = λ l n. read _ _;
      services_write = λ l n v. written _;
      spn_decode = λ l. read _ _;
      spn_encode = λ p room. written _;
      admin_decode = λ l. read _ _;
      admin_encode = λ v l. written _;
      iccid_bytes = λ l. in_memory _ _ _ _ (all_bytes 20);
      imsi_bytes = λ l. in_memory _ _ _ _ (all_bytes 15);
      spn_bytes = λ l. in_memory _ _ _ _ all_named;
    }
