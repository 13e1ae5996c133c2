-- A carried place has the same characters before it and behind it as before.
use Rattle.std.proofs.Common.{◌≡◌, ◌≢◌, ◌↔◌, ℕ, ◌+◌, ◌-◌, ◌==◌, ◌<◌, ◌≤◌, nat_lt, List, [], ◌∷◌, ◌++◌, Some, encode_utf8_all, if◌then◌else◌, refl, sym, ap, ◌∙◌, subst, arith, append_assoc, length-append}
use Rattle.std.specs.Char.{encode_utf8}
use Rattle.std.proofs.lemmas.Bool.{ltb-true, ltb-false}
use Rattle.serna_kinds.specs.declared.cells.NodeName.{NodeName}
use Rattle.serna_kinds.specs.Texts.{IsPlaceIn, upto, past, inserted, removed}
use Rattle.serna_kinds.proofs.TextLemmas.{starts_one, upto-before, past-before, inserted-at}
use Rattle.source_model.specs.Source.{Source}
use Rattle.source_model.specs.Changes.{text_at}
use Rattle.source_model.proofs.Spots.{if_same}
use Rattle.source_primitives.specs.declared.primitive.CaretPlace.TheVariants.{Text}
use Rattle.source_primitives.specs.declared.primitive.Moves.{Moves}
use Rattle.source_primitives.specs.declared.primitive.Primitive.{Primitive}
use Rattle.source_primitives.specs.declared.primitive.Primitive.TheVariants.{InsertText, RemoveText, InsertChild, RemoveChild, SetAttr, RemoveAttr, PutAttr}
use Rattle.source_primitives.specs.Primitives.{applied}
use Rattle.source_primitives.specs.Places.{IsPlaceOf, behind_insertion, behind_removal, carried_through, settled_by, moved}
use Rattle.source_primitives.specs.Neighbours.{StandsBetween, CarriesBetween}
use Rattle.source_primitives.proofs.TextPlaces.{size, size-append, between, by_test}
use Rattle.source_primitives.proofs.PlacesKept.{text_at-with_text}

-- a place of a text is one that cuts it in two
pub each_place : (s : Source) (number : NodeName) (at : ℕ) → IsPlaceOf s (Text number at) ↔ ((before : List ℕ) × (behind : List ℕ) × StandsBetween s (Text number at) before behind)
each_place s number at = (
  λ is. (is.2.before, is.2.behind, (is.1 ∙ ap Some is.2.whole, is.2.place)),
  λ cut. (cut.0 ++ cut.1, cut.2.0, record { before = cut.0; behind = cut.1; whole = refl; place = cut.2.1 }),
)

-- a text cut in three without the middle, from its places
removed-cut : (before gone after : List ℕ) (from to : ℕ) → size before ≡ from → size (before ++ gone) ≡ to → removed from to (before ++ (gone ++ after)) ≡ before ++ after
removed-cut before gone after from to e f =
    ap (λ t. t ++ past to (before ++ (gone ++ after))) (upto-before before (gone ++ after) from e)
    ∙ ap (λ t. before ++ past to t) (sym (append_assoc before gone after))
    ∙ ap (λ t. before ++ t) (past-before (before ++ gone) after to f)

-- the text after an insertion, and after a removal
pub text_put_in : (s : Source) (number : NodeName) (from : ℕ) (before after piece : List ℕ) → StandsBetween s (Text number from) before after →
    text_at (applied (InsertText number from piece) s) number.0 ≡ Some (before ++ (piece ++ after))
text_put_in s number from before after piece cut =
    text_at-with_text number.0 number.0 (inserted from piece) s (before ++ after) cut.0
    ∙ ap Some (if_same number.0 number.0 (inserted from piece (before ++ after)) (before ++ after) refl)
    ∙ ap Some (inserted-at (before ++ after) piece from (record { before = before; behind = after; whole = refl; place = cut.1 }))

text_taken_out : (s : Source) (number : NodeName) (from to : ℕ) (before gone after : List ℕ) → StandsBetween s (Text number from) before (gone ++ after) → size (before ++ gone) ≡ to →
    text_at (applied (RemoveText number from to) s) number.0 ≡ Some (before ++ after)
text_taken_out s number from to before gone after cut end =
    let text : List ℕ = before ++ (gone ++ after) in
    text_at-with_text number.0 number.0 (removed from to) s text cut.0
    ∙ ap Some (if_same number.0 number.0 (removed from to text) text refl)
    ∙ ap Some (removed-cut before gone after from to cut.1 end)

-- where the place is, by the tests of `carried`
same_number : (n now at : ℕ) (P : ℕ → Type 0) → P now → P (if n == n then now else at)
same_number n now at P p = subst P (sym (if_same n n now at refl)) p

now_ahead : (from more at n : ℕ) → at ≤ from → n ≡ at → n ≡ behind_insertion from more at
now_ahead from more at n le e = by_test (λ k. n ≡ k) (nat_lt from at) (at + more) at (λ t. let lt : from < at = ltb-true from at t in absurd (omega (arith, lt, le))) (λ t. e)

now_past : (from more at n : ℕ) → from < at → n ≡ at + more → n ≡ behind_insertion from more at
now_past from more at n lt e = by_test (λ k. n ≡ k) (nat_lt from at) (at + more) at (λ t. e) (λ t. let le : at ≤ from = ltb-false from at t in absurd (omega (arith, lt, le)))

now_after : (from to at n : ℕ) → (to < at → n ≡ at - (to - from)) → (at ≤ to → from < at → n ≡ from) → (at ≤ from → n ≡ at) → n ≡ behind_removal from to at
now_after from to at n past_it within before_it =
    by_test (λ k. n ≡ k) (nat_lt to at) (at - (to - from)) (if nat_lt from at then from else at) (λ t. past_it (ltb-true to at t))
    (λ t. by_test (λ k. n ≡ k) (nat_lt from at) from at (λ u. within (ltb-false to at t) (ltb-true from at u)) (λ u. before_it (ltb-false from at u)))

some_bytes : (text : List ℕ) → text ≢ [] → 0 < size text
some_bytes [] some = absurd (some refl)
some_bytes (c ∷ cs) some = omega (arith, length-append (encode_utf8 c) (encode_utf8_all cs), (starts_one c).0)

-- a text cut where the place is and where the prim changes it: how it is cut then
put_in_behind : (s : Source) (number : NodeName) (at from : ℕ) (before middle after piece : List ℕ) → StandsBetween s (Text number at) before (middle ++ after) →
    StandsBetween s (Text number from) (before ++ middle) after → CarriesBetween (InsertText number from piece) s (Text number at) before (middle ++ (piece ++ after))
put_in_behind s number at from before middle after piece here there = (
  text_put_in s number from (before ++ middle) after piece there ∙ ap Some (append_assoc before middle (piece ++ after)),
  same_number number.0 (behind_insertion from (size piece) at) at (λ k. size before ≡ k)
      (now_ahead from (size piece) at (size before) (omega (arith, here.1, there.1, size-append before middle)) here.1),
)

put_in_before : (s : Source) (number : NodeName) (at from : ℕ) (before middle after piece : List ℕ) → middle ≢ [] → StandsBetween s (Text number from) before (middle ++ after) →
    StandsBetween s (Text number at) (before ++ middle) after → CarriesBetween (InsertText number from piece) s (Text number at) (before ++ (piece ++ middle)) after
put_in_before s number at from before middle after piece some there here = (
  text_put_in s number from before (middle ++ after) piece there ∙ ap (λ t. Some (before ++ t)) (sym (append_assoc piece middle after)) ∙ ap Some (sym (append_assoc before (piece ++ middle) after)),
  same_number number.0 (behind_insertion from (size piece) at) at (λ k. size (before ++ (piece ++ middle)) ≡ k)
      (now_past from (size piece) at (size (before ++ (piece ++ middle))) (omega (arith, here.1, there.1, size-append before middle, some_bytes middle some))
      (omega (arith, here.1, size-append before middle, size-append before (piece ++ middle), size-append piece middle))),
)

taken_out_behind : (s : Source) (number : NodeName) (at from to : ℕ) (before middle gone after : List ℕ) → StandsBetween s (Text number at) before (middle ++ (gone ++ after)) →
    StandsBetween s (Text number from) (before ++ middle) (gone ++ after) → StandsBetween s (Text number to) (before ++ (middle ++ gone)) after →
    CarriesBetween (RemoveText number from to) s (Text number at) before (middle ++ after)
taken_out_behind s number at from to before middle gone after here start end =
    let all : size (before ++ middle ++ gone) ≡ to = ap size (append_assoc before middle gone) ∙ end.1 in
    let sizes : size (before ++ middle) ≡ size before + size middle = size-append before middle in
    let order : from ≤ to = omega (arith, start.1, all, size-append (before ++ middle) gone) in (
      text_taken_out s number from to (before ++ middle) gone after start all ∙ ap Some (append_assoc before middle after),
      same_number number.0 (behind_removal from to at) at (λ k. size before ≡ k)
          (now_after from to at (size before) (λ lt. absurd (omega (arith, lt, order, here.1, start.1, sizes))) (λ le lt. absurd (omega (arith, lt, here.1, start.1, sizes))) (λ le. here.1)),
    )

taken_out_before : (s : Source) (number : NodeName) (at from to : ℕ) (before gone middle after : List ℕ) → StandsBetween s (Text number from) before (gone ++ (middle ++ after)) →
    StandsBetween s (Text number to) (before ++ gone) (middle ++ after) → StandsBetween s (Text number at) (before ++ (gone ++ middle)) after →
    CarriesBetween (RemoveText number from to) s (Text number at) (before ++ middle) after
taken_out_before s number at from to before gone middle after start end here =
    let first : size before + size gone ≡ to = sym (size-append before gone) ∙ end.1 in
    let whole : size before + (size gone + size middle) ≡ at = ap (λ n. size before + n) (sym (size-append gone middle)) ∙ sym (size-append before (gone ++ middle)) ∙ here.1 in
    let now : size (before ++ middle) ≡ size before + size middle = size-append before middle in (
      text_taken_out s number from to before gone (middle ++ after) start end.1 ∙ ap Some (sym (append_assoc before middle after)),
      same_number number.0 (behind_removal from to at) at (λ k. size (before ++ middle) ≡ k)
          (now_after from to at (size (before ++ middle)) (λ lt. omega (arith, start.1, first, whole, now)) (λ le lt. omega (arith, le, start.1, first, whole, now))
          (λ le. omega (arith, le, start.1, whole, now))),
    )

taken_out_around : (s : Source) (number : NodeName) (at from to : ℕ) (before gone lost after : List ℕ) → StandsBetween s (Text number from) before (gone ++ (lost ++ after)) →
    StandsBetween s (Text number at) (before ++ gone) (lost ++ after) → StandsBetween s (Text number to) (before ++ (gone ++ lost)) after →
    CarriesBetween (RemoveText number from to) s (Text number at) before after
taken_out_around s number at from to before gone lost after start here end =
    let place : size before + size gone ≡ at = sym (size-append before gone) ∙ here.1 in
    let whole : size before + (size gone + size lost) ≡ to = ap (λ n. size before + n) (sym (size-append gone lost)) ∙ sym (size-append before (gone ++ lost)) ∙ end.1 in
    let cut : StandsBetween s (Text number from) before ((gone ++ lost) ++ after) = (start.0 ∙ ap (λ t. Some (before ++ t)) (sym (append_assoc gone lost after)), start.1) in (
      text_taken_out s number from to before (gone ++ lost) after cut end.1,
      same_number number.0 (behind_removal from to at) at (λ k. size before ≡ k)
          (now_after from to at (size before) (λ lt. absurd (omega (arith, lt, place, whole))) (λ le lt. start.1) (λ le. omega (arith, le, start.1, place))),
    )

-- the same at each place of the text: the two are in one order or the other
pub ahead_of_insertion : (s : Source) (number : NodeName) (at from : ℕ) (before behind piece : List ℕ) → StandsBetween s (Text number at) before behind → IsPlaceIn (before ++ behind) from → at ≤ from →
    CarriesBetween (InsertText number from piece) s (Text number at) before (inserted (from - at) piece behind)
ahead_of_insertion s number at from before behind piece here f le =
    let m = between before behind f.before f.behind f.whole (omega (arith, le, here.1, f.place)) in
    let apart : size m.more ≡ from - at = omega (arith, here.1, f.place, ap size m.later, size-append before m.more) in
    let cut : behind ≡ m.more ++ f.behind = m.left in
    subst (CarriesBetween (InsertText number from piece) s (Text number at) before)
    (sym (inserted-at behind piece (from - at) (record { before = m.more; behind = f.behind; whole = cut; place = apart })))
    (put_in_behind s number at from before m.more f.behind piece (here.0 ∙ ap (λ t. Some (before ++ t)) cut, here.1)
    (here.0 ∙ ap Some f.whole ∙ ap (λ t. Some (t ++ f.behind)) m.later, sym (ap size m.later) ∙ f.place))

pub past_insertion : (s : Source) (number : NodeName) (at from : ℕ) (before behind piece : List ℕ) → StandsBetween s (Text number at) before behind → IsPlaceIn (before ++ behind) from → from < at →
    CarriesBetween (InsertText number from piece) s (Text number at) (inserted from piece before) behind
past_insertion s number at from before behind piece here f lt =
    let m = between f.before f.behind before behind (sym f.whole) (omega (arith, lt, here.1, f.place)) in
    let more : size before ≡ size f.before + size m.more = ap size m.later ∙ size-append f.before m.more in
    subst (λ t. CarriesBetween (InsertText number from piece) s (Text number at) t behind)
    (sym (inserted-at before piece from (record { before = f.before; behind = m.more; whole = m.later; place = f.place })))
    (put_in_before s number at from f.before m.more behind piece (λ e. let none : size m.more ≡ 0 = ap size e in absurd (omega (arith, lt, here.1, f.place, more, none)))
    (here.0 ∙ ap Some f.whole ∙ ap (λ t. Some (f.before ++ t)) m.left, f.place) (here.0 ∙ ap (λ t. Some (t ++ behind)) m.later, sym (ap size m.later) ∙ here.1))

pub ahead_of_removal : (s : Source) (number : NodeName) (at from to : ℕ) (before behind : List ℕ) → StandsBetween s (Text number at) before behind → IsPlaceIn (before ++ behind) from →
    IsPlaceIn (before ++ behind) to → from ≤ to → at ≤ from → CarriesBetween (RemoveText number from to) s (Text number at) before (removed (from - at) (to - at) behind)
ahead_of_removal s number at from to before behind here f t order le =
    let m = between before behind f.before f.behind f.whole (omega (arith, le, here.1, f.place)) in
    let g = between f.before f.behind t.before t.behind (sym f.whole ∙ t.whole) (omega (arith, order, f.place, t.place)) in
    let first : size f.before ≡ size before + size m.more = ap size m.later ∙ size-append before m.more in
    let second : size t.before ≡ size f.before + size g.more = ap size g.later ∙ size-append f.before g.more in
    let cut : behind ≡ m.more ++ (g.more ++ t.behind) = m.left ∙ ap (λ x. m.more ++ x) g.left in
    let ends : t.before ≡ before ++ (m.more ++ g.more) = g.later ∙ ap (λ x. x ++ g.more) m.later ∙ append_assoc before m.more g.more in
    subst (CarriesBetween (RemoveText number from to) s (Text number at) before)
    (sym (ap (removed (from - at) (to - at)) cut ∙ removed-cut m.more g.more t.behind (from - at) (to - at) (omega (arith, here.1, f.place, first))
    (size-append m.more g.more ∙ omega (arith, here.1, f.place, t.place, first, second))))
    (taken_out_behind s number at from to before m.more g.more t.behind (here.0 ∙ ap (λ x. Some (before ++ x)) cut, here.1)
    (here.0 ∙ ap Some f.whole ∙ ap (λ x. Some (x ++ f.behind)) m.later ∙ ap (λ x. Some ((before ++ m.more) ++ x)) g.left, sym (ap size m.later) ∙ f.place)
    (here.0 ∙ ap Some t.whole ∙ ap (λ x. Some (x ++ t.behind)) ends, sym (ap size ends) ∙ t.place))

pub past_removal : (s : Source) (number : NodeName) (at from to : ℕ) (before behind : List ℕ) → StandsBetween s (Text number at) before behind → IsPlaceIn (before ++ behind) from →
    IsPlaceIn (before ++ behind) to → from ≤ to → to ≤ at → CarriesBetween (RemoveText number from to) s (Text number at) (removed from to before) behind
past_removal s number at from to before behind here f t order le =
    let g = between f.before f.behind t.before t.behind (sym f.whole ∙ t.whole) (omega (arith, order, f.place, t.place)) in
    let m = between t.before t.behind before behind (sym t.whole) (omega (arith, le, here.1, t.place)) in
    let cut : before ≡ f.before ++ (g.more ++ m.more) = m.later ∙ ap (λ x. x ++ m.more) g.later ∙ append_assoc f.before g.more m.more in
    let end : size (f.before ++ g.more) ≡ to = sym (ap size g.later) ∙ t.place in
    subst (λ x. CarriesBetween (RemoveText number from to) s (Text number at) x behind) (sym (ap (removed from to) cut ∙ removed-cut f.before g.more m.more from to f.place end))
    (taken_out_before s number at from to f.before g.more m.more behind
    (here.0 ∙ ap Some f.whole ∙ ap (λ x. Some (f.before ++ x)) g.left ∙ ap (λ x. Some (f.before ++ (g.more ++ x))) m.left, f.place)
    (here.0 ∙ ap Some t.whole ∙ ap (λ x. Some (x ++ t.behind)) g.later ∙ ap (λ x. Some ((f.before ++ g.more) ++ x)) m.left, end)
    (here.0 ∙ ap (λ x. Some (x ++ behind)) cut, sym (ap size cut) ∙ here.1))

pub within_removal : (s : Source) (number : NodeName) (at from to : ℕ) (before behind : List ℕ) → StandsBetween s (Text number at) before behind → IsPlaceIn (before ++ behind) from →
    IsPlaceIn (before ++ behind) to → from ≤ at → at ≤ to → CarriesBetween (RemoveText number from to) s (Text number at) (upto from before) (past (to - at) behind)
within_removal s number at from to before behind here f t start end =
    let g = between f.before f.behind before behind (sym f.whole) (omega (arith, start, here.1, f.place)) in
    let l = between before behind t.before t.behind t.whole (omega (arith, end, here.1, t.place)) in
    let first : upto from before ≡ f.before = ap (upto from) g.later ∙ upto-before f.before g.more from f.place in
    let lost : size l.more ≡ to - at = omega (arith, here.1, t.place, ap size l.later, size-append before l.more) in
    let last : past (to - at) behind ≡ t.behind = ap (past (to - at)) l.left ∙ past-before l.more t.behind (to - at) lost in
    let ends : t.before ≡ f.before ++ (g.more ++ l.more) = l.later ∙ ap (λ x. x ++ l.more) g.later ∙ append_assoc f.before g.more l.more in
    subst (λ x. CarriesBetween (RemoveText number from to) s (Text number at) x (past (to - at) behind)) (sym first)
    (subst (CarriesBetween (RemoveText number from to) s (Text number at) f.before) (sym last)
    (taken_out_around s number at from to f.before g.more l.more t.behind
    (here.0 ∙ ap Some f.whole ∙ ap (λ x. Some (f.before ++ x)) g.left ∙ ap (λ x. Some (f.before ++ (g.more ++ x))) l.left, f.place)
    (here.0 ∙ ap (λ x. Some (x ++ behind)) g.later ∙ ap (λ x. Some ((f.before ++ g.more) ++ x)) l.left, sym (ap size g.later) ∙ here.1)
    (here.0 ∙ ap Some t.whole ∙ ap (λ x. Some (x ++ t.behind)) ends, sym (ap size ends) ∙ t.place)))

-- a place of a text is carried to one of the same text, so that settling it changes nothing
carried_text : (prims : List Primitive) (number : NodeName) (at : ℕ) → (now : ℕ) × (carried_through prims (Text number at) ≡ Text number now)
carried_text [] number at = (at, refl)
carried_text (InsertText text from piece ∷ prims) number at = carried_text prims number (if number.0 == text.0 then behind_insertion from (size piece) at else at)
carried_text (RemoveText text from to ∷ prims) number at = carried_text prims number (if number.0 == text.0 then behind_removal from to at else at)
carried_text (InsertChild parent place items ∷ prims) number at = carried_text prims number at
carried_text (RemoveChild parent place ∷ prims) number at = carried_text prims number at
carried_text (SetAttr element name value ∷ prims) number at = carried_text prims number at
carried_text (RemoveAttr element name ∷ prims) number at = carried_text prims number at
carried_text (PutAttr element place name value ∷ prims) number at = carried_text prims number at

pub moved_text : (moves : Moves) (number : NodeName) (at : ℕ) → moved moves (Text number at) ≡ carried_through moves.prims (Text number at)
moved_text moves number at = let is = carried_text moves.prims number at in ap (settled_by moves.begun) is.1 ∙ sym is.1
