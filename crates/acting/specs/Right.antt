-- What is tested of a command before it is carried out.
use Rattle.std.specs.Prelude.{ℕ, ◌<◌, ◌≡◌, List, length}
use Rattle.card.specs.Answers.{first}
use Rattle.card.specs.Forms.{formed, sent}
use Rattle.card.specs.declared.Instruction.{Instruction}

-- P1, P2 and P3 are bytes, the form refuses nothing, and as many bytes follow as the command sends.
pub record Right (i : Instruction) (p q n : ℕ) (d : List ℕ) : Type 0 where
  pub p1 : p < 256
  pub p2 : q < 256
  pub p3 : n < 256
  pub form : first (formed i p q n) ≡ 0
  pub sends : length d ≡ sent i n
