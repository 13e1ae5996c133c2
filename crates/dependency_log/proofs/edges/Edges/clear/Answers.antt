use Rattle.std.proofs.Common.{◌≡◌, None, sym, ◌∙◌, nat_eq, rules}
use Rattle.dependency_log.proofs.Numbers.{first_past}
use Rattle.dependency_log.proofs.StepLemmas.{none_in, cleared_at, cleared_empty, cleared_same, cleared_nothing}
use Rattle.dependency_log.proofs.edges.Edges.clear.Goals as goal

pub returns-in-Some-clause-empty : goal.returns-in-Some-clause-empty
returns-in-Some-clause-empty c =
    let at = cleared_at c.args.self.now c.clear_right.new.self c.args.slot c.in-Some.number (sym c.get_index_of.ensures.index ∙ c.in-Some.is)
    (record { empty = c.clear_right.ensures.empty; items = c.clear_right.ensures.items; other_right_lists = c.clear_right.ensures.other_right_lists }) in
    cleared_empty c.args.self.now c.clear_right.new.self c.args.slot c.requires at.0 at.1

pub returns-in-Some-clause-same : goal.returns-in-Some-clause-same
returns-in-Some-clause-same c =
    let at = cleared_at c.args.self.now c.clear_right.new.self c.args.slot c.in-Some.number (sym c.get_index_of.ensures.index ∙ c.in-Some.is)
    (record { empty = c.clear_right.ensures.empty; items = c.clear_right.ensures.items; other_right_lists = c.clear_right.ensures.other_right_lists }) in
    cleared_same c.args.self.now c.clear_right.new.self c.args.slot c.requires at.0 at.1

pub returns-in-Some-clause-nothing : goal.returns-in-Some-clause-nothing
returns-in-Some-clause-nothing c =
    let at = cleared_at c.args.self.now c.clear_right.new.self c.args.slot c.in-Some.number (sym c.get_index_of.ensures.index ∙ c.in-Some.is)
    (record { empty = c.clear_right.ensures.empty; items = c.clear_right.ensures.items; other_right_lists = c.clear_right.ensures.other_right_lists }) in
    cleared_nothing c.args.self.now c.clear_right.new.self c.args.slot c.requires at.0 at.1

pub returns-in_default-clause-empty : goal.returns-in_default-clause-empty
returns-in_default-clause-empty c =
    let none : c.get_index_of.result ≡ None = search rules in
    none_in c.args.self.now c.args.slot c.requires (first_past (nat_eq c.args.slot) c.args.self.now.slots.keys (sym c.get_index_of.ensures.index ∙ none))
