use Rattle.std.proofs.Common.{ℕ, ◌++◌, ◌-◌, List, get_or, refl, sym, ap, ◌∙◌, subst, arith, append-nil}
use Rattle.std.specs.Str.{chars}
use Rattle.std.specs.List.{flat_map, AllByRecursion}
use Rattle.std.proofs.lemmas.Result.{on_ok_weaker}
use Rattle.std.proofs.lemmas.List.{take_all}
use Rattle.serna_kinds.specs.declared.cells.NodeName.{NodeName}
use Rattle.source_model.specs.Cells.{spot_of, cell_of}
use Rattle.xpath_axes.specs.Strings.{texts_at, MayJoin}
use Rattle.xpath_axes.proofs.StringLemmas.{texts_none, texts_step, may_step, joined_root, joined_element, joined_text, joined_comment, joined_none, kids_told, texts_more, all_at}
use Rattle.xpath_axes.proofs.strings.+texts.Goals as goal

pub add_texts-returns-then-left-eq0-clause-value : goal.add_texts-returns-then-left-eq0-clause-value
add_texts-returns-then-left-eq0-clause-value g t c source agrees =
    sym (append-nil c.args.out.now) ∙ ap (λ (l : List ℕ). c.args.out.now ++ l) (sym (texts_none source c.args.left c.args.node (omega arith)))

pub add_texts-returns-in_err-found-clause-within : goal.add_texts-returns-in_err-found-clause-within
add_texts-returns-in_err-found-clause-within g t c allowed source agrees may old =
    c.kind_of.ensures.within allowed (may_step allowed source c.args.left (c.args.left - 1) c.args.node (omega arith) may).0 old

pub add_texts-returns-in_default-clause-value : goal.add_texts-returns-in_default-clause-value
add_texts-returns-in_default-clause-value g t c source agrees =
    sym (append-nil c.args.out.now)
    ∙ ap (λ (l : List ℕ). c.args.out.now ++ l)
    (sym (texts_step source c.args.left (c.args.left - 1) c.args.node (omega arith)
    ∙ joined_none (spot_of source c.args.node.0) c.in_ok-found.found (texts_at source (c.args.left - 1)) (c.in_ok-found.ensures.value source agrees) c.in_default.is))

pub add_texts-returns-in_default-clause-within : goal.add_texts-returns-in_default-clause-within
add_texts-returns-in_default-clause-within g t c allowed source agrees may old =
    c.kind_of.ensures.within allowed (may_step allowed source c.args.left (c.args.left - 1) c.args.node (omega arith) may).0 old

pub add_texts-returns-in-Root-clause-before : goal.add_texts-returns-in-Root-clause-before
add_texts-returns-in-Root-clause-before g t c other agrees = c.kind_of.ensures.before other (c.add_texts_below.ensures.before other agrees)

pub add_texts-returns-in-Root-clause-value : goal.add_texts-returns-in-Root-clause-value
add_texts-returns-in-Root-clause-value g t c =
    on_ok_weaker c.add_texts_below.result
    (λ added source agrees.
    added source agrees
    ∙ ap (λ (l : List ℕ). c.args.out.now ++ l)
    (sym (texts_step source c.args.left (c.args.left - 1) c.args.node (omega arith)
    ∙ joined_root (spot_of source c.args.node.0) c.in_ok-found.found c.in-Some.kind (texts_at source (c.args.left - 1))
    (c.in_ok-found.ensures.value source (c.add_texts_below.ensures.before (cell_of source) agrees)) c.in-Some.is c.in-Root.is)))
    c.add_texts_below.ensures.value

pub add_texts-returns-in-Root-clause-within : goal.add_texts-returns-in-Root-clause-within
add_texts-returns-in-Root-clause-within g t c allowed source agrees may old =
    let own = may_step allowed source c.args.left (c.args.left - 1) c.args.node (omega arith) may in
    c.add_texts_below.ensures.within allowed source agrees own.1 own.3 (c.kind_of.ensures.within allowed own.0 old)

pub add_texts-returns-in-Element-clause-before : goal.add_texts-returns-in-Element-clause-before
add_texts-returns-in-Element-clause-before g t c other agrees = c.kind_of.ensures.before other (c.add_texts_below-in-Element.ensures.before other agrees)

pub add_texts-returns-in-Element-clause-value : goal.add_texts-returns-in-Element-clause-value
add_texts-returns-in-Element-clause-value g t c =
    on_ok_weaker c.add_texts_below-in-Element.result
    (λ added source agrees.
    added source agrees
    ∙ ap (λ (l : List ℕ). c.args.out.now ++ l)
    (sym (texts_step source c.args.left (c.args.left - 1) c.args.node (omega arith)
    ∙ joined_element (spot_of source c.args.node.0) c.in_ok-found.found c.in-Some.kind (texts_at source (c.args.left - 1))
    (c.in_ok-found.ensures.value source (c.add_texts_below-in-Element.ensures.before (cell_of source) agrees)) c.in-Some.is c.in-Element.is)))
    c.add_texts_below-in-Element.ensures.value

pub add_texts-returns-in-Element-clause-within : goal.add_texts-returns-in-Element-clause-within
add_texts-returns-in-Element-clause-within g t c allowed source agrees may old =
    let own = may_step allowed source c.args.left (c.args.left - 1) c.args.node (omega arith) may in
    c.add_texts_below-in-Element.ensures.within allowed source agrees own.1 own.3 (c.kind_of.ensures.within allowed own.0 old)

pub add_texts-returns-in_err-characters_of-in-Text-clause-before : goal.add_texts-returns-in_err-characters_of-in-Text-clause-before
add_texts-returns-in_err-characters_of-in-Text-clause-before g t c other agrees = c.kind_of.ensures.before other (c.characters_of.ensures.before other agrees)

pub add_texts-returns-in_err-characters_of-in-Text-clause-within : goal.add_texts-returns-in_err-characters_of-in-Text-clause-within
add_texts-returns-in_err-characters_of-in-Text-clause-within g t c allowed source agrees may old =
    let own = may_step allowed source c.args.left (c.args.left - 1) c.args.node (omega arith) may in
    c.characters_of.ensures.within allowed own.2 (c.kind_of.ensures.within allowed own.0 old)

pub add_texts-returns-in_ok-characters_of-in-Text-clause-before : goal.add_texts-returns-in_ok-characters_of-in-Text-clause-before
add_texts-returns-in_ok-characters_of-in-Text-clause-before g t c other agrees = c.kind_of.ensures.before other (c.characters_of.ensures.before other agrees)

pub add_texts-returns-in_ok-characters_of-in-Text-clause-value : goal.add_texts-returns-in_ok-characters_of-in-Text-clause-value
add_texts-returns-in_ok-characters_of-in-Text-clause-value g t c =
    on_ok_weaker c.push_text.result
    (λ added source agrees.
    added
    ∙ ap (λ (l : List ℕ). c.args.out.now ++ l)
    (sym (texts_step source c.args.left (c.args.left - 1) c.args.node (omega arith)
    ∙ joined_text (spot_of source c.args.node.0) c.in_ok-found.found c.in-Some.kind (texts_at source (c.args.left - 1)) (chars c.in_ok-characters_of-in-Text.field-0.now)
    (c.in_ok-found.ensures.value source (c.characters_of.ensures.before (cell_of source) agrees)) c.in-Some.is c.in-Text.is
    (λ spot at. c.in_ok-characters_of-in-Text.ensures.value source spot agrees at))))
    c.push_text.ensures

pub add_texts-returns-in_ok-characters_of-in-Text-clause-within : goal.add_texts-returns-in_ok-characters_of-in-Text-clause-within
add_texts-returns-in_ok-characters_of-in-Text-clause-within g t c allowed source agrees may old =
    let own = may_step allowed source c.args.left (c.args.left - 1) c.args.node (omega arith) may in
    c.characters_of.ensures.within allowed own.2 (c.kind_of.ensures.within allowed own.0 old)

pub add_texts-returns-in-Comment-clause-value : goal.add_texts-returns-in-Comment-clause-value
add_texts-returns-in-Comment-clause-value g t c source agrees =
    sym (append-nil c.args.out.now)
    ∙ ap (λ (l : List ℕ). c.args.out.now ++ l)
    (sym (texts_step source c.args.left (c.args.left - 1) c.args.node (omega arith)
    ∙ joined_comment (spot_of source c.args.node.0) c.in_ok-found.found c.in-Some.kind (texts_at source (c.args.left - 1)) (c.in_ok-found.ensures.value source agrees) c.in-Some.is c.in-Comment.is))

pub add_texts-returns-in-Comment-clause-within : goal.add_texts-returns-in-Comment-clause-within
add_texts-returns-in-Comment-clause-within g t c allowed source agrees may old =
    c.kind_of.ensures.within allowed (may_step allowed source c.args.left (c.args.left - 1) c.args.node (omega arith) may).0 old

pub add_texts_below-returns-in_err-kids-clause-within : goal.add_texts_below-returns-in_err-kids-clause-within
add_texts_below-returns-in_err-kids-clause-within g t c allowed source agrees own below old = c.children_of.ensures.within allowed own old

pub add_texts_below-loop-kid-init : goal.add_texts_below-loop-kid-init
add_texts_below-loop-kid-init g t c = (λ other agrees. agrees, refl, λ source agrees. sym (append-nil c.args.out.now), λ allowed source agrees all old. old)

pub add_texts_below-returns-in_err-add_texts-clause-before : goal.add_texts_below-returns-in_err-add_texts-clause-before
add_texts_below-returns-in_err-add_texts-clause-before g t c other agrees = c.children_of.ensures.before other (c.loop-kid.invariant.0 other (c.add_texts.ensures.before other agrees))

pub add_texts_below-returns-in_err-add_texts-clause-within : goal.add_texts_below-returns-in_err-add_texts-clause-within
add_texts_below-returns-in_err-add_texts-clause-within g t c allowed source agrees own below old =
    let now = c.add_texts.ensures.before (cell_of source) agrees in
    let early = c.loop-kid.invariant.0 (cell_of source) now in
    let kids = kids_told (spot_of source c.args.node.0) c.in_ok-kids.kids.now (λ spot at. c.in_ok-kids.ensures.value source spot early at) (λ gone. c.in_ok-kids.ensures.absent source early gone) in
    let may : AllByRecursion (MayJoin allowed source c.args.left) c.in_ok-kids.kids.now = subst (AllByRecursion (MayJoin allowed source c.args.left)) (sym kids) below in
    c.add_texts.ensures.within allowed source agrees (all_at (MayJoin allowed source c.args.left) c.in_ok-kids.kids.now c.loop-kid.kid-index (record { 0 = 0 }) (omega arith) may)
    (c.loop-kid.invariant.3 allowed source now may (c.children_of.ensures.within allowed own old))

pub add_texts_below-loop-kid-preserved : goal.add_texts_below-loop-kid-preserved
add_texts_below-loop-kid-preserved g t c = (
  λ other agrees. c.loop-kid.invariant.0 other (c.add_texts.ensures.before other agrees),
  c.add_texts.ensures.place ∙ c.loop-kid.invariant.1,
  λ source agrees.
      c.in_ok-add_texts.ensures.value source agrees
      ∙ ap (λ (l : List ℕ). l ++ texts_at source c.args.left (get_or c.in_ok-kids.kids.now c.loop-kid.kid-index (record { 0 = 0 })))
      (c.loop-kid.invariant.2 source (c.add_texts.ensures.before (cell_of source) agrees))
      ∙ texts_more (texts_at source c.args.left) c.in_ok-kids.kids.now c.loop-kid.kid-index (record { 0 = 0 }) c.args.out.now (omega arith),
  λ allowed source agrees all old.
      c.add_texts.ensures.within allowed source agrees (all_at (MayJoin allowed source c.args.left) c.in_ok-kids.kids.now c.loop-kid.kid-index (record { 0 = 0 }) (omega arith) all)
      (c.loop-kid.invariant.3 allowed source (c.add_texts.ensures.before (cell_of source) agrees) all old),
)

pub add_texts_below-returns-clause-before : goal.add_texts_below-returns-clause-before
add_texts_below-returns-clause-before g t c other agrees = c.children_of.ensures.before other (c.loop-kid.invariant.0 other agrees)

pub add_texts_below-returns-clause-value : goal.add_texts_below-returns-clause-value
add_texts_below-returns-clause-value g t c source agrees =
    let early = c.loop-kid.invariant.0 (cell_of source) agrees in
    c.loop-kid.invariant.2 source agrees
    ∙ ap (λ (ns : List NodeName). c.args.out.now ++ flat_map (texts_at source c.args.left) ns)
    (take_all c.loop-kid.kid-index c.in_ok-kids.kids.now (omega arith)
    ∙ kids_told (spot_of source c.args.node.0) c.in_ok-kids.kids.now (λ spot at. c.in_ok-kids.ensures.value source spot early at) (λ gone. c.in_ok-kids.ensures.absent source early gone))

pub add_texts_below-returns-clause-within : goal.add_texts_below-returns-clause-within
add_texts_below-returns-clause-within g t c allowed source agrees own below old =
    let early = c.loop-kid.invariant.0 (cell_of source) agrees in
    let kids = kids_told (spot_of source c.args.node.0) c.in_ok-kids.kids.now (λ spot at. c.in_ok-kids.ensures.value source spot early at) (λ gone. c.in_ok-kids.ensures.absent source early gone) in
    let may : AllByRecursion (MayJoin allowed source c.args.left) c.in_ok-kids.kids.now = subst (AllByRecursion (MayJoin allowed source c.args.left)) (sym kids) below in
    c.loop-kid.invariant.3 allowed source agrees may (c.children_of.ensures.within allowed own old)
