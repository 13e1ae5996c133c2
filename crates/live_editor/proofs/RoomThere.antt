-- A place in what a part shows can be said.
use Rattle.std.proofs.Common.{ℕ, ◌^◌, ◌<◌, arith}
use Rattle.result_origin.specs.declared.origin.Origin.{Origin}
use Rattle.result_origin.specs.declared.origin.Origin.TheVariants as origin
use Rattle.live_editor.specs.Shown.{HasRoom, IsAtStart}

pub room_there : (from : Origin) (more : ℕ) → IsAtStart from → more < 2 ^ 64 → HasRoom more from
room_there (origin.Text number at) more start few = omega (arith, start, few)
room_there (origin.Attr number name at) more start few = omega (arith, start, few)
room_there (origin.Into number) more start few = tt
room_there (origin.Fixed rule) more start few = tt
room_there (origin.Computed rule node) more start few = tt
