-- Results that are kept by numbers, where a hole's number names the result that fills it, and when they fit the instances of a source
-- (this project's own).
use Rattle.std.specs.Prelude.{◌≡◌, ℕ, zero, suc, List, [], ◌∷◌, Option, Some}
use Rattle.serna_kinds.specs.Names.{NameParts}
use Rattle.source_model.specs.Source.{Source}
use Rattle.result_origin.specs.Parts.{ResultPart, Says, Hole}
use Rattle.style_sheet.specs.Sheet.{StyleValue}
use Rattle.instance_store.specs.declared.request.Asked.{Asked}
use Rattle.template_run.specs.Batch.{frag}

-- parts fit others: they say the same, and what is at the number of each hole fits what the other one asks for
abbrev pub FitParts : (ℕ → Asked → Type 0) → List (ResultPart ℕ) → List (ResultPart Asked) → Type 0
FitParts FitsAt [] [] = Unit {0}
FitParts FitsAt [] (part ∷ parts) = ⊥
FitParts FitsAt (Says mark ∷ kept) [] = ⊥
FitParts FitsAt (Hole id ∷ kept) [] = ⊥
FitParts FitsAt (Says mark ∷ kept) (Says other ∷ parts) = (mark ≡ other) × FitParts FitsAt kept parts
FitParts FitsAt (Says mark ∷ kept) (Hole asked ∷ parts) = ⊥
FitParts FitsAt (Hole id ∷ kept) (Says other ∷ parts) = ⊥
FitParts FitsAt (Hole id ∷ kept) (Hole asked ∷ parts) = FitsAt id asked × FitParts FitsAt kept parts

abbrev pub NoneFits : ℕ → Asked → Type 0
NoneFits id asked = ⊥

-- what is kept at a number is the instance that is asked for, where so many levels are left, and so is what is kept at each of its holes, a
-- level deeper
unfoldable pub Holds : List NameParts → StyleValue → Source → (ℕ → Option (List (ResultPart ℕ))) → ℕ → ℕ → Asked → Type 0
Holds names style source kept zero id asked =
    (parts : List (ResultPart ℕ)) × (kept id ≡ Some parts) × FitParts NoneFits parts (frag names style zero asked.request asked.place source)
Holds names style source kept (suc left) id asked =
    (parts : List (ResultPart ℕ)) × (kept id ≡ Some parts)
    × FitParts (Holds names style source kept left) parts (frag names style (suc left) asked.request asked.place source)
