-- The two stacks of changes of an editor, and what an undo and a redo make of them (this project's own).
use Rattle.std.specs.Prelude.{ℕ, List, [], ◌∷◌}
use Rattle.edit_undo.specs.declared.change.Change.{Change}

-- the changes that were done, the last one first, and those that were undone, the next one to be redone first
pub record Stacks : Type 0 where
  pub done : List Change
  pub undone : List Change

-- nothing was done
abbrev pub no_changes : Stacks
no_changes = record { done = []; undone = [] }

-- a new change is the last one that was done, and nothing can be redone
abbrev pub pushed : Change → Stacks → Stacks
pushed change stacks = record { done = change ∷ stacks.done; undone = [] }

-- one stack with its top moved to the other, where it has one
abbrev pub top_moved : List Change → List Change → List Change × List Change
top_moved [] other = ([], other)
top_moved (top ∷ rest) other = (rest, top ∷ other)

-- the last change that was done is the next one to be redone
abbrev pub after_undo : Stacks → Stacks
after_undo stacks = let moved = top_moved stacks.done stacks.undone in record { done = moved.0; undone = moved.1 }

-- the next change to be redone is the last one that was done
abbrev pub after_redo : Stacks → Stacks
after_redo stacks = let moved = top_moved stacks.undone stacks.done in record { done = moved.1; undone = moved.0 }

-- a history as contracts see it: its stacks, and for how many changes more it has room
pub record Remembered : Type 0 where
  pub stacks : Stacks
  pub spare : ℕ
