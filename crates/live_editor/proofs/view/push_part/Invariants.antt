use Rattle.std.proofs.Common.{◌≡◌, ◌+◌, ◌≤◌, length}
use Rattle.std.specs.Str.{chars}
use Rattle.std.specs.Str.Iter.{char_indices_rest, char_indices_offset}
use Rattle.result_origin.specs.Pages.{shown_bytes}
use Rattle.live_editor.specs.Shown.{boundaries_of}
use Rattle.live_editor.proofs.BegunRun.{IsBegun}
use Rattle.live_editor.proofs.view.push_part.Given as goal

abbrev pub invariant-loop-at : goal.invariant-loop-at
invariant-loop-at l = record {
  can_next : (goal.iterator-loop-at).can_next l.at-iterator;
  is_finite : (goal.iterator-loop-at).is_finite l.at-iterator;
  within : l.column ≤ length l.boundaries.items;
  sizes : char_indices_offset l.at-iterator + length (char_indices_rest l.at-iterator) ≡ length (shown_bytes l.part);
  begun : IsBegun l.page l.line l.part.run.origin (chars (shown_bytes l.part)) l.fn.column l.part.start (boundaries_of l.initial.boundaries.items) l.column
      (l.part.start + char_indices_offset l.at-iterator) (char_indices_rest l.at-iterator) (boundaries_of l.boundaries.items);
}
