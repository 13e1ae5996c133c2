-- An attribute that breaks no rule has a new key, and is then added.
use Rattle.std.proofs.Common.{List, sym, ◌∙◌, ap}
use Rattle.serna_kinds.specs.Names.{Space}
use Rattle.tree_lines.specs.Keys.{key_of}
use Rattle.tree_lines.specs.Reading.{has_key}
use Rattle.tree_lines.proofs.StepLemmas.{has_key-unbroken, attribute_read, attribute_names-read}
use Rattle.tree_lines.proofs.reader.Reader.attribute.Goals as goal

pub add_key-requires : goal.add_key-requires
add_key-requires c =
    let key = c.in_ok-key.ensures ∙ ap (λ (s : List Space). key_of s c.args.name.now) c.spaces.ensures in
    ap (has_key c.args.self.now) key ∙ has_key-unbroken c.args.self.now c.args.name.now c.args.value.now (sym c.attribute_rule.ensures ∙ c.in_default.is)

pub returns-clause-read : goal.returns-clause-read
returns-clause-read c table g =
    let key = c.in_ok-key.ensures ∙ ap (λ (s : List Space). key_of s c.args.name.now) c.spaces.ensures in
    attribute_read table c.args.self.now c.add_key.new.self c.add_pair.new.self c.in_ok-key.key c.args.name.now c.args.value.now
    c.in_ok-add_key.ensures key (c.in_ok-add_pair.ensures.read table g c.args.value.now c.in_ok-decoded.ensures.text)

pub returns-clause-names : goal.returns-clause-names
returns-clause-names c =
    c.in_ok-add_pair.ensures.names c.args.value.now
    ∙ attribute_names-read c.args.names.now c.args.self.now c.add_key.new.self c.in_ok-key.key c.args.name.now c.args.value.now c.in_ok-add_key.ensures
