use Rattle.source_primitives.proofs.Neighbours.{each_place, ahead_of_insertion, past_insertion, ahead_of_removal, past_removal, within_removal, moved_text}
use Rattle.source_primitives.proofs.StillThere.{changed_elsewhere}
use Rattle.source_primitives.proofs.laws.a_carried_place_keeps_its_neighbours.Goals as goal

pub returns : goal.returns
returns c = record {
  each_place = each_place;
  ahead_of_insertion = ahead_of_insertion;
  past_insertion = past_insertion;
  ahead_of_removal = ahead_of_removal;
  past_removal = past_removal;
  within_removal = within_removal;
  elsewhere = changed_elsewhere;
  moved = moved_text;
}
