use Rattle.plain_editor.proofs.Boundaries.{view_stop_on, view_boundary_stops, view_stands}
use Rattle.plain_editor.proofs.laws.a_stop_shows_what_stands_there.Goals as goal

pub returns : goal.returns
returns c = record { each_stop = view_stop_on; each_boundary = view_boundary_stops; shown = view_stands }
