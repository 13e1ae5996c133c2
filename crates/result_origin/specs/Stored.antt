-- Results by their numbers (this project's own).
use Rattle.std.specs.Prelude.{ℕ, List, Option}
use Rattle.std.specs.Ordering.{nat_cmp}
use Rattle.std.specs.FinMap as map
use Rattle.std.specs.Coded.{Coded, code_by, coded×, coded_ℕ}
use Rattle.std.proofs.Common.{refl}
use Rattle.result_origin.specs.Parts.{ResultPart}

abbrev pub Stored : Type 0
Stored = map.FinMap nat_cmp (List (ResultPart ℕ))

-- results by their numbers, and how many more can be stored without memory
pub record Shelf : Type 0 where
  pub stored : Stored
  pub room : ℕ

abbrev pub shelf_code : Coded (List (ResultPart ℕ)) → Coded Shelf
shelf_code parts =
    code_by (Stored × ℕ) (coded× (map.code coded_ℕ parts) coded_ℕ) (λ s. (s.stored, s.room)) (λ p. record { stored = p.0; room = p.1 }) (λ _. refl)

-- the result of a number, where there is one
abbrev pub kept : Stored → ℕ → Option (List (ResultPart ℕ))
kept stored id = map.get stored id
