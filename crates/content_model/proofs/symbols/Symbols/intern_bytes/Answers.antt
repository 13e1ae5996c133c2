use Rattle.std.proofs.Common.{◌+◌, ◌++◌, ◌∷◌, [], Some, cond, map, sym, ◌∙◌, ap, refl}
use Rattle.std.specs.List.{list_any}
use Rattle.content_model.specs.Symbols.{symbol_in, with_name}
use Rattle.content_model.proofs.Table.{inserted, is_key, has_number}
use Rattle.content_model.proofs.symbols.Symbols.intern_bytes.Goals as goal

pub returns-clause-number : goal.returns-clause-number
returns-clause-number c =
    let v = c.in_ok-name.name in
    let old = c.self.inside.names.keys in
    let new = c.insert_full.new.self.keys in
    let made = inserted (λ name. name.items) v.items old v refl (list_any (is_key (λ name. name.items) v.items) old) refl in
    ap (λ w. symbol_in (map (λ name. name.items) new) w) (sym c.in_ok-name.ensures.items)
    ∙ ap (λ keys. symbol_in (map (λ name. name.items) keys) v.items) c.in_ok-place.ensures.keys
    ∙ made.0
    ∙ ap (λ place. Some (place + 1)) (sym c.in_ok-place.ensures.index)

pub returns-clause-table : goal.returns-clause-table
returns-clause-table c =
    let v = c.in_ok-name.name in
    let old = c.self.inside.names.keys in
    let table = map (λ name. name.items) old in
    let known = list_any (is_key (λ name. name.items) v.items) old in
    let made = inserted (λ name. name.items) v.items old v refl known refl in
    ap (λ keys. map (λ name. name.items) keys) c.in_ok-place.ensures.keys
    ∙ made.1
    ∙ ap (λ b. cond b table (table ++ v.items ∷ [])) (sym (has_number (λ name. name.items) v.items 1 old))
    ∙ ap (λ w. with_name table w) c.in_ok-name.ensures.items
    ∙ ap (λ names. with_name names c.args.written.now) c.self.view_is
