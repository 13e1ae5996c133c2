-- The declaration goes last, and its prefix is looked up as before where it was declared already.
use Rattle.std.proofs.Common.{◌≡◌, [], ◌∷◌, ◌++◌, Some, None, bytes_eq, if◌then◌else◌, rules, ap, ◌∙◌}
use Rattle.std.specs.Arc.{arc_str_bytes}
use Rattle.serna_kinds.specs.Names.{Space}
use Rattle.serna_kinds.specs.Lookups.{or_else, uri_in}
use Rattle.serna_kinds.specs.Names.{space}
use Rattle.serna_kinds.proofs.SpaceLemmas.{indexed-append}
use Rattle.serna_kinds.proofs.names.Spaces.declare.Goals as goal

pub invariant_of-self-2 : goal.invariant_of-self-2
invariant_of-self-2 c =
    let s : Space = space c.args.prefix.now c.args.uri.now in
    let grown : c.push.new.self.items ≡ c.self.inside.declarations.items ++ s ∷ [] = search rules in
    let uri : arc_str_bytes c.in_ok-shared.shared ≡ c.args.uri.now = c.in_ok-shared.ensures ∙ ap (λ (d : Space). d.uri) c.in_ok-declaration.ensures in
    indexed-append c.self.inside.declarations.items c.push.new.self.items s c.self.inside.uris c.note_uri.new.uris grown c.self.invariant c.utf8.prefix c.utf8.uri
    (λ q. c.in_ok-note_uri.ensures.noted q
    ∙ ap (λ u. or_else (uri_in c.self.inside.uris q) (if bytes_eq c.args.prefix.now q then Some u else None)) uri)
