-- What is written for the tree of a text that was read reads back as this tree: its words are an expression with the tree, no deeper
-- than what was read, and without fault; and they are the tokens of their text.
use Rattle.std.proofs.Common.{◌≡◌, ◌&&◌, ℕ, Bool, true, false, IsTrue, List, [], ◌∷◌, sym, subst}
use Rattle.std.specs.List.{AllByRecursion}
use Rattle.std.specs.Str.{IsUtf8, is_utf8}
use Rattle.std.proofs.lemmas.Str.{IsUtf8-from_is_utf8}
use Rattle.serna_kinds.specs.Names.{NameParts, Space}
use Rattle.serna_kinds.specs.Lookups.{AreTexts}
use Rattle.xpath_trees.specs.declared.expr.Expr.{Expr}
use Rattle.xpath_machine.specs.Stops.{IsShallow}
use Rattle.xpath_syntax.specs.Reading.{IsReading}
use Rattle.xpath_tokens.specs.Symbols.{symbols_at}
use Rattle.xpath_tokens.specs.Tokens.{tokens_of}
use Rattle.xpath_tokens.specs.Named.{HasNames}
use Rattle.xpath_writer.specs.Writing.{written}
use Rattle.xpath_writer.proofs.Faultless.{written_faultless}
use Rattle.xpath_writer.proofs.Leaves.{all_leaves}
use Rattle.xpath_writer.proofs.Parting.{all_apart}
use Rattle.xpath_writer.proofs.Readings.{text_writable}
use Rattle.xpath_writer.proofs.Rewritten.{sh}
use Rattle.xpath_writer.proofs.RewrittenPaths.{written_expr, written_tokens}
use Rattle.xpath_writer.proofs.Shallow.{shallow_words}
use Rattle.xpath_writer.proofs.SpelledWords.{spelled-read}

second : (a b : Bool) → IsTrue (a && b) → b ≡ true
second true b e = e
second false b e = absurd (clash e)
  where
    clash : false ≡ true → ⊥
    clash f = cc

uris_text : (spaces : List Space) → AreTexts spaces → AllByRecursion (λ (s : Space). IsUtf8 s.uri) spaces
uris_text [] all = tt
uris_text (s ∷ ss) all = (IsUtf8-from_is_utf8 s.uri (second (is_utf8 s.prefix) (is_utf8 s.uri) all.0), uris_text ss all.1)

pub reads_back : (spaces : List Space) (names : List NameParts) (text : List ℕ) (tree : Expr) → IsUtf8 text → AreTexts spaces → HasNames spaces names text (tokens_of text) → IsReading spaces names text tree
    → IsReading spaces names (written spaces names tree) tree
reads_back spaces names text tree utf8 texts has reading =
    let uris = uris_text spaces texts in
    let tokens = symbols_at spaces names text (tokens_of text) in
    let words = (sh spaces names tree).words false in
    let is = reading.has.0 in
    let leaves = all_leaves spaces names tokens (text_writable spaces names text utf8 uris reading.faultless has) in
    record {
      has = (
        written_expr spaces names tokens tree leaves is,
        subst IsShallow (sym (spelled-read spaces names words (written_tokens spaces names tokens tree leaves is))) (shallow_words spaces names tokens tree leaves (all_apart spaces names text) is reading.has.1),
      );
      faultless = written_faultless spaces names text tree utf8 uris has is reading.faultless;
    }
