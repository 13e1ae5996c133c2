-- Other prefixes keep their URIs, and the new one gets its own.
use Rattle.std.proofs.Common.{◌≡◌, is_some, false, ap, ◌∙◌, sym, Some, bytes_eq}
use Rattle.std.specs.Option.{option_map}
use Rattle.std.specs.Arc.{arc_str_bytes}
use Rattle.std.specs.HashMap.{get_by_text}
use Rattle.std.specs.String.{string_bytes}
use Rattle.std.specs.Map.{update}
use Rattle.std.proofs.lemmas.Map.Text.{hash_map_updates_text}
use Rattle.serna_kinds.proofs.SpaceLemmas.{map-update}
use Rattle.serna_kinds.proofs.names.note_uri.Goals as goal

pub returns-clause-noted : goal.returns-clause-noted
returns-clause-noted c = λ other.
    let key : string_bytes c.in_ok-key.key ≡ c.args.prefix.now = c.in_ok-key.ensures.ok in
    let changed : get_by_text c.insert.new.self other ≡ update bytes_eq (get_by_text c.args.uris.now) (string_bytes c.in_ok-key.key) (Some c.args.uri) other =
    hash_map_updates_text (string_bytes c.in_ok-key.key) c.args.uris.now c.insert.new.self _ c.in_ok-insert.ensures.updates other in
    let absent : is_some (get_by_text c.args.uris.now c.args.prefix.now) ≡ false = sym c.contains_key.ensures ∙ c.if-contains_key.false in
    ap (option_map arc_str_bytes) changed
    ∙ ap (λ bs. option_map arc_str_bytes (update bytes_eq (get_by_text c.args.uris.now) bs (Some c.args.uri) other)) key
    ∙ map-update arc_str_bytes (get_by_text c.args.uris.now) c.args.prefix.now c.args.uri other absent
