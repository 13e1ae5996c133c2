-- A history leads to the present source, whatever is pushed, undone or redone.
use Rattle.std.proofs.Common.{◌≡◌, List, [], ◌∷◌, reverse, Some, sym, ap, ◌∙◌, subst, arith, slice_get}
use Rattle.std.specs.Prelude.{unwrap_or}
use Rattle.source_model.specs.Source.{Source}
use Rattle.source_model.specs.Consistent.{IsConsistent}
use Rattle.source_primitives.specs.declared.primitive.Primitive.{Primitive}
use Rattle.source_primitives.specs.Primitives.{applied_all, inverses, MayApplyAll}
use Rattle.source_primitives.proofs.UndoneAll.{undone_all, may_undo_all, made_more_all, same_spaces_all, consistent_all}
use Rattle.edit_undo.specs.declared.change.Change.{Change}
use Rattle.edit_undo.specs.Stacks.{Stacks, no_changes, pushed, after_undo, after_redo}
use Rattle.edit_undo.specs.Leads.{IsChangeOf, done_to, undone_from, led_to, IsAgain, WereDone, CanBeDone, Leads}
use Rattle.edit_undo.proofs.Again.{tree_all, may_all, again_self, again_twice, done_again, change_again}
use Rattle.edit_undo.proofs.Made.{made_undone, made_again}

-- a source is told by its tree, its count and its spaces
source_is : (s t : Source) → s.tree ≡ t.tree → s.made ≡ t.made → s.spaces ≡ t.spaces → s ≡ t
source_is s t tree made spaces = λ i. record { tree = tree i; made = made i; spaces = spaces i }

pub were_again : (changes : List Change) (start s t : Source) → WereDone changes start s → IsAgain s t → WereDone changes start t
were_again [] start s t were again = again_twice start s t were again
were_again (c ∷ changes) start s t were again = (were.0, were.1, were.2, were.3, again_twice (done_to c were.0) s t were.4 again)

-- A change was made of a consistent source, and what it left is here again. Then it may be taken back, and what it was made of is
-- there again.
module _ (c : Change) (before source : Source) (consistent : IsConsistent before) (is : IsChangeOf c before) (again : IsAgain (done_to c before) source) where
  pub may_go_back : MayApplyAll (reverse c.inverses) source
  may_go_back =
      subst (λ (qs : List Primitive). MayApplyAll (reverse qs) source) (sym is.back)
      (may_all (reverse (inverses c.prims before)) (done_to c before) source (sym again.tree) again.made (may_undo_all before c.prims consistent is.may))

  pub goes_back : IsAgain before (undone_from c source)
  goes_back = record {
    tree =
        ap (λ (qs : List Primitive). (applied_all (reverse qs) source).tree) is.back
        ∙ tree_all (reverse (inverses c.prims before)) source (done_to c before) again.tree
        ∙ undone_all before c.prims consistent.linked is.may;
    spaces = same_spaces_all (reverse c.inverses) source ∙ again.spaces ∙ same_spaces_all c.prims before;
    made =
        let one = made_more_all c.prims before in
        let two = again.made in
        let three = made_more_all (reverse c.inverses) source in
        omega (arith, one, two, three);
  }

  pub no_number : (undone_from c source).made ≡ source.made
  no_number =
      ap (λ (qs : List Primitive). (applied_all (reverse qs) source).made) is.back
      ∙ made_undone c.prims before source consistent.linked is.may again.made

  -- and to make it again gives this source
  pub goes_forth : done_to c (undone_from c source) ≡ source
  goes_forth =
      let back : Source = undone_from c source in
      let more = again.made in
      let same = no_number in
      source_is (done_to c back) source
      (tree_all c.prims back before goes_back.tree ∙ sym again.tree)
      (made_again c.prims before back (omega (arith, more, same)) ∙ same)
      (same_spaces_all c.prims back ∙ same_spaces_all (reverse c.inverses) source)

pub begins : (source : Source) → IsConsistent source → Leads source no_changes source
begins source consistent = record { consistent = consistent; done = again_self source; undone = tt }

pub push : (start source : Source) (stacks : Stacks) (c : Change) → Leads start stacks source → IsChangeOf c source → Leads start (pushed c stacks) (done_to c source)
push start source stacks c leads is = record {
  consistent = consistent_all source c.prims leads.consistent is.may;
  done = (source, leads.done, leads.consistent, is, again_self (done_to c source));
  undone = tt;
}

-- the stack's top, where it has one
top_is : (c top : Change) (rest : List Change) → slice_get (top ∷ rest) 0 ≡ Some c → top ≡ c
top_is c top rest e = ap (λ o. unwrap_or o top) e

may_undo_top : (start source : Source) (done : List Change) (c : Change) → WereDone done start source → slice_get done 0 ≡ Some c → MayApplyAll (reverse c.inverses) source
may_undo_top start source [] c were e = cc
may_undo_top start source (top ∷ earlier) c were e =
    subst (λ (x : Change). MayApplyAll (reverse x.inverses) source) (top_is c top earlier e) (may_go_back top were.0 source were.2 were.3 were.4)

pub may_undo : (start source : Source) (stacks : Stacks) (c : Change) → Leads start stacks source → slice_get stacks.done 0 ≡ Some c → MayApplyAll (reverse c.inverses) source
may_undo start source stacks c leads e = may_undo_top start source stacks.done c leads.done e

undo_top : (start source : Source) (done undone : List Change) (c : Change) → Leads start (record { done = done; undone = undone }) source → slice_get done 0 ≡ Some c →
    Leads start (after_undo (record { done = done; undone = undone })) (undone_from c source)
undo_top start source [] undone c leads e = cc
undo_top start source (top ∷ earlier) undone c leads e =
    let were = leads.done in
    let back : Source = undone_from top source in
    let same = goes_back top were.0 source were.2 were.3 were.4 in
    subst (λ (x : Change). Leads start (record { done = earlier; undone = top ∷ undone }) (undone_from x source)) (top_is c top earlier e)
    (record {
      consistent = consistent_all source (reverse top.inverses) leads.consistent (may_go_back top were.0 source were.2 were.3 were.4);
      done = were_again earlier start were.0 back were.1 same;
      undone = (
        change_again top were.0 back same were.3,
        subst (CanBeDone undone) (sym (goes_forth top were.0 source were.2 were.3 were.4)) leads.undone,
      );
    })

pub undo : (start source : Source) (stacks : Stacks) (c : Change) → Leads start stacks source → slice_get stacks.done 0 ≡ Some c → Leads start (after_undo stacks) (undone_from c source)
undo start source stacks c leads e = undo_top start source stacks.done stacks.undone c leads e

again_top : (start source : Source) (done : List Change) (c : Change) → WereDone done start source → slice_get done 0 ≡ Some c → done_to c (undone_from c source) ≡ source
again_top start source [] c were e = cc
again_top start source (top ∷ earlier) c were e =
    subst (λ (x : Change). done_to x (undone_from x source) ≡ source) (top_is c top earlier e) (goes_forth top were.0 source were.2 were.3 were.4)

pub redo_after_undo : (start source : Source) (stacks : Stacks) (c : Change) → Leads start stacks source → slice_get stacks.done 0 ≡ Some c → done_to c (undone_from c source) ≡ source
redo_after_undo start source stacks c leads e = again_top start source stacks.done c leads.done e

may_redo_top : (source : Source) (undone : List Change) (c : Change) → CanBeDone undone source → slice_get undone 0 ≡ Some c → MayApplyAll c.prims source
may_redo_top source [] c can e = cc
may_redo_top source (top ∷ later) c can e = subst (λ (x : Change). MayApplyAll x.prims source) (top_is c top later e) can.0.may

pub may_redo : (start source : Source) (stacks : Stacks) (c : Change) → Leads start stacks source → slice_get stacks.undone 0 ≡ Some c → MayApplyAll c.prims source
may_redo start source stacks c leads e = may_redo_top source stacks.undone c leads.undone e

redo_top : (start source : Source) (done undone : List Change) (c : Change) → Leads start (record { done = done; undone = undone }) source → slice_get undone 0 ≡ Some c →
    Leads start (after_redo (record { done = done; undone = undone })) (done_to c source)
redo_top start source done [] c leads e = cc
redo_top start source done (top ∷ later) c leads e =
    subst (λ (x : Change). Leads start (record { done = top ∷ done; undone = later }) (done_to x source)) (top_is c top later e)
    (record {
      consistent = consistent_all source top.prims leads.consistent leads.undone.0.may;
      done = (source, leads.done, leads.consistent, leads.undone.0, again_self (done_to top source));
      undone = leads.undone.1;
    })

pub redo : (start source : Source) (stacks : Stacks) (c : Change) → Leads start stacks source → slice_get stacks.undone 0 ≡ Some c → Leads start (after_redo stacks) (done_to c source)
redo start source stacks c leads e = redo_top start source stacks.done stacks.undone c leads e

-- what was done is there: the source is what the changes make of the start, but for the count
led : (changes : List Change) (start source : Source) → WereDone changes start source → IsAgain (led_to changes start) source
led [] start source were = were
led (c ∷ changes) start source were =
    again_twice (done_to c (led_to changes start)) (done_to c were.0) source (done_again c (led_to changes start) were.0 (led changes start were.0 were.1)) were.4

pub leads_there : (start source : Source) (stacks : Stacks) → Leads start stacks source → IsAgain (led_to stacks.done start) source
leads_there start source stacks leads = led stacks.done start source leads.done

pub leads_back : (start source : Source) (stacks : Stacks) → Leads start stacks source → stacks.done ≡ [] → IsAgain start source
leads_back start source stacks leads e = subst (λ (changes : List Change). IsAgain (led_to changes start) source) e (leads_there start source stacks leads)
