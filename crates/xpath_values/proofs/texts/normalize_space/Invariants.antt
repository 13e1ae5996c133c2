use Rattle.std.proofs.Common.{◌≡◌}
use Rattle.std.specs.Str.{chars, IsUtf8}
use Rattle.xpath_values.specs.Texts.{normalized}
use Rattle.xpath_values.proofs.WordsOf.{finished}
use Rattle.xpath_values.proofs.texts.normalize_space.Given as goal

abbrev pub invariant-loop-character : goal.invariant-loop-character
invariant-loop-character l =
    IsUtf8 l.character-iterator.rest.now × (finished l.normal l.is_between (chars l.character-iterator.rest.now) ≡ normalized (chars l.text))
