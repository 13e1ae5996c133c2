-- What a history is once the reference to one of its changes has ended.
use Rattle.std.specs.Prelude.{◌≡◌, ⊤}
use Rattle.std.specs.Borrow.{Fml, MutBor, follows_so}
use mathlib.Core.Option.{none}
use Rattle.edit_undo.specs.Stacks.{Stacks, Remembered}
use Rattle.edit_undo.specs.contracts.history.History.{the_row}

-- it has these stacks, and room as before
abbrev pub ends_with : MutBor Remembered → Stacks → Fml
ends_with history stacks = follows_so the_row the_row history.ghost_name none (λ _ _. ⊤) (λ n. n ≡ record { stacks = stacks; spare = history.now.spare })
