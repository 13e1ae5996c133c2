-- How a history of changes leads from one source to another (this project's own).
use Rattle.std.specs.Prelude.{◌≡◌, ◌≤◌, List, [], ◌∷◌, reverse}
use Rattle.source_model.specs.Source.{Source}
use Rattle.source_model.specs.Consistent.{IsConsistent}
use Rattle.source_primitives.specs.Primitives.{applied_all, inverses, MayApplyAll}
use Rattle.edit_undo.specs.declared.change.Change.{Change}
use Rattle.edit_undo.specs.Stacks.{Stacks}

-- a change may be made of a source, and has what takes it back from there
pub record IsChangeOf (change : Change) (source : Source) : Type 0 where
  pub may : MayApplyAll change.prims source
  pub back : change.inverses ≡ inverses change.prims source

-- what a change makes of a source: its primitives are applied one after another
abbrev pub done_to : Change → Source → Source
done_to change source = applied_all change.prims source

-- what taking it back makes of a source: the inverses of its primitives are applied, the last one first
abbrev pub undone_from : Change → Source → Source
undone_from change source = applied_all (reverse change.inverses) source

-- the source that changes make of the one that they start from, the last change first
abbrev pub led_to : List Change → Source → Source
led_to [] start = start
led_to (last ∷ earlier) start = done_to last (led_to earlier start)

-- the same source again, where only the count of numbers ever made may be greater
pub record IsAgain (source again : Source) : Type 0 where
  pub tree : again.tree ≡ source.tree
  pub spaces : again.spaces ≡ source.spaces
  pub made : source.made ≤ again.made

-- Changes, the last one first, were made one after another from a source on, and left this one. Changes that were undone in between
-- left no more than a greater count of numbers ever made.
abbrev pub WereDone : List Change → Source → Source → Type 0
WereDone [] start source = IsAgain start source
WereDone (last ∷ earlier) start source =
    (before : Source) × WereDone earlier start before × IsConsistent before × IsChangeOf last before × IsAgain (done_to last before) source

-- changes can be made one after another, the next one first
abbrev pub CanBeDone : List Change → Source → Type 0
CanBeDone [] source = Unit {0}
CanBeDone (next ∷ later) source = IsChangeOf next source × CanBeDone later (done_to next source)

-- what is done led from the start to the present source, and what was undone can be made again of that
pub record Leads (start : Source) (stacks : Stacks) (present : Source) : Type 0 where
  pub consistent : IsConsistent present
  pub done : WereDone stacks.done start present
  pub undone : CanBeDone stacks.undone present
