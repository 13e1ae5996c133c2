use Rattle.std.proofs.Common.{refl, ap}
use Rattle.content_model.specs.Machine.{begin_keyword, NoContent, AnyContent}
use Rattle.content_model.proofs.builder.Builder.begin_keyword.Goals as goal

pub returns-then-byte-eq69 : goal.returns-then-byte-eq69
returns-then-byte-eq69 c = λ number shows. (
  NoContent,
  ap begin_keyword c.if-byte-eq69.true,
  record { place_is = refl; groups_are = shows.groups_are; nodes_are = shows.nodes_are; nullable_is = tt; names_are = shows.names_are },
)

pub returns-then-byte-eq65 : goal.returns-then-byte-eq65
returns-then-byte-eq65 c = λ number shows. (
  AnyContent,
  ap begin_keyword c.if-byte-eq65.true,
  record { place_is = refl; groups_are = shows.groups_are; nodes_are = shows.nodes_are; nullable_is = tt; names_are = shows.names_are },
)
