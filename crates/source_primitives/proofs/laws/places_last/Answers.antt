use Rattle.source_primitives.proofs.PlacesKept.{place_kept, place_lasts, moved_settles, moved_lasts}
use Rattle.source_primitives.proofs.laws.places_last.Goals as goal

pub returns : goal.returns
returns c = record {
  settled = moved_settles;
  kept = place_kept;
  lasts = moved_lasts;
  begins = place_lasts;
}
