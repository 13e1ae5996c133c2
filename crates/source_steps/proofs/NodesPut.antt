-- How the changes that put nodes in grow: one text or comment, one element with all below it, and all neighbours.
use Rattle.std.proofs.Common.{◌≡◌, ℕ, ◌+◌, ◌-◌, ◌<◌, ◌≤◌, List, [], ◌∷◌, ◌++◌, map, drop, length, Some, None, slice_get, refl, sym, ap, ◌∙◌, subst, arith, append-nil, append_assoc, length-append}
use Rattle.std.proofs.lemmas.List.{drop_more, drop_all, drop-drop, drop_at, length-drop}
use Rattle.std.proofs.lemmas.Option.{get_or_from_slice_get, slice_get_within}
use Rattle.serna_kinds.specs.declared.cells.NodeName.{NodeName}
use Rattle.serna_kinds.specs.declared.cells.NameId.{NameId}
use Rattle.serna_kinds.specs.declared.cells.AttrPair.{AttrPair}
use Rattle.serna_kinds.specs.declared.cells.Facet.TheVariants as facet
use Rattle.serna_kinds.specs.declared.cells.Kind.TheVariants as kind
use Rattle.source_model.specs.Source.{Root, Element, Text, Comment, Forest, none, node, numbers}
use Rattle.source_model.specs.Cells.{named}
use Rattle.source_model.specs.Consistent.{AreLeaves}
use Rattle.frozen_tree.specs.declared.kept.CellChange.{CellChange}
use Rattle.frozen_tree.specs.declared.kept.KeptValue.TheVariants as kept
use Rattle.source_primitives.specs.declared.primitive.SubItem.{SubItem}
use Rattle.source_primitives.specs.declared.primitive.SubItem.TheVariants as item
use Rattle.source_primitives.specs.Primitives.{items_of}
use Rattle.source_steps.specs.CellChanges.{put, puts}
use Rattle.source_steps.specs.Putting.{EndHere, IsSomeForest, StandAt, GoesOn, PutsOne, IsPut, PutsAll}

-- what is left at a place where an item stands
next_left : (items : List SubItem) (at : ℕ) (x : SubItem) (later : List SubItem) → slice_get items at ≡ Some x → drop at items ≡ later → x ∷ drop (at + 1) items ≡ later
next_left items at x later is left =
    let within : at < length items = slice_get_within items at x is in
    let one : drop at items ≡ x ∷ drop (at + 1) items = drop_more items at x within ∙ ap (λ y. y ∷ drop (at + 1) items) (get_or_from_slice_get items at x x is) in
    sym one ∙ left

-- a first node is put in
goes_on : (items : List SubItem) (up : NodeName) (at : ℕ) (changes piece : List CellChange) (kids : List NodeName) (more : List SubItem) (old rest : Forest) (number : NodeName)
    (to : ℕ) (new_changes : List CellChange) (new_kids : List NodeName) → new_changes ≡ changes ++ piece → puts (Some up.0) old ≡ piece ++ puts (Some up.0) rest → new_kids ≡ kids ++ number ∷ [] →
    map named (numbers old) ≡ number ∷ map named (numbers rest) → AreLeaves rest → drop to items ≡ items_of rest ++ more → to + length (items_of rest) ≡ at + length (items_of old) →
    GoesOn items up at changes kids more old to new_changes new_kids
goes_on items up at changes piece kids more old rest number to new_changes new_kids is-changes whole is-kids first leaves left place = record {
  new = rest;
  stand = record { leaves = leaves; left = left };
  changed = ap (λ cs. cs ++ puts (Some up.0) rest) is-changes ∙ append_assoc changes piece (puts (Some up.0) rest) ∙ ap (λ cs. changes ++ cs) (sym whole);
  numbered = ap (λ ks. ks ++ map named (numbers rest)) is-kids ∙ append_assoc kids (number ∷ []) (map named (numbers rest)) ∙ ap (λ ks. kids ++ ks) (sym first);
  place = place;
}

-- a text, and a comment
abbrev text_piece : NodeName → NodeName → List ℕ → List CellChange
text_piece up number text = put facet.Label number.0 (kept.Label kind.Text None) ∷ put facet.Up number.0 (kept.Up (Some up)) ∷ put facet.Text number.0 (kept.Text text) ∷ []

abbrev comment_piece : NodeName → NodeName → List ℕ → List CellChange
comment_piece up number text = put facet.Label number.0 (kept.Label kind.Comment None) ∷ put facet.Up number.0 (kept.Up (Some up)) ∷ put facet.Text number.0 (kept.Text text) ∷ []

text_first : (items : List SubItem) (up : NodeName) (at : ℕ) (changes : List CellChange) (kids : List NodeName) (number : NodeName) (text : List ℕ) (more : List SubItem) (old : Forest)
    (new_changes : List CellChange) (new_kids : List NodeName) → IsSomeForest old → AreLeaves old → item.Text number text ∷ drop (at + 1) items ≡ items_of old ++ more →
    new_changes ≡ changes ++ text_piece up number text → new_kids ≡ kids ++ number ∷ [] → GoesOn items up at changes kids more old (at + 1) new_changes new_kids
text_first items up at changes kids number text more none new_changes new_kids some leaves e is-changes is-kids = absurd some
text_first items up at changes kids number text more (node n Root below rest) new_changes new_kids some leaves e is-changes is-kids = absurd leaves
text_first items up at changes kids number text more (node n (Element name pairs) below rest) new_changes new_kids some leaves e is-changes is-kids = cc
text_first items up at changes kids number text more (node n (Comment t) below rest) new_changes new_kids some leaves e is-changes is-kids = cc
text_first items up at changes kids number text more (node n (Text t) below rest) new_changes new_kids some leaves e is-changes is-kids =
    let same : number ≡ named n = cc in
    let same_text : text ≡ t = cc in
    goes_on items up at changes (text_piece up (named n) t) kids more (node n (Text t) below rest) rest (named n) (at + 1) new_changes new_kids
    (is-changes ∙ ap (λ k. changes ++ text_piece up k text) same ∙ ap (λ u. changes ++ text_piece up (named n) u) same_text)
    refl (is-kids ∙ ap (λ k. kids ++ k ∷ []) same) refl leaves.1 (cc) (omega arith)

comment_first : (items : List SubItem) (up : NodeName) (at : ℕ) (changes : List CellChange) (kids : List NodeName) (number : NodeName) (text : List ℕ) (more : List SubItem) (old : Forest)
    (new_changes : List CellChange) (new_kids : List NodeName) → IsSomeForest old → AreLeaves old → item.Comment number text ∷ drop (at + 1) items ≡ items_of old ++ more →
    new_changes ≡ changes ++ comment_piece up number text → new_kids ≡ kids ++ number ∷ [] → GoesOn items up at changes kids more old (at + 1) new_changes new_kids
comment_first items up at changes kids number text more none new_changes new_kids some leaves e is-changes is-kids = absurd some
comment_first items up at changes kids number text more (node n Root below rest) new_changes new_kids some leaves e is-changes is-kids = absurd leaves
comment_first items up at changes kids number text more (node n (Element name pairs) below rest) new_changes new_kids some leaves e is-changes is-kids = cc
comment_first items up at changes kids number text more (node n (Text t) below rest) new_changes new_kids some leaves e is-changes is-kids = cc
comment_first items up at changes kids number text more (node n (Comment t) below rest) new_changes new_kids some leaves e is-changes is-kids =
    let same : number ≡ named n = cc in
    let same_text : text ≡ t = cc in
    goes_on items up at changes (comment_piece up (named n) t) kids more (node n (Comment t) below rest) rest (named n) (at + 1) new_changes new_kids
    (is-changes ∙ ap (λ k. changes ++ comment_piece up k text) same ∙ ap (λ u. changes ++ comment_piece up (named n) u) same_text)
    refl (is-kids ∙ ap (λ k. kids ++ k ∷ []) same) refl leaves.1 (cc) (omega arith)

pub text_put : (items : List SubItem) (up : NodeName) (at : ℕ) (changes : List CellChange) (kids : List NodeName) (number : NodeName) (text : List ℕ) (new_changes : List CellChange) (new_kids : List NodeName) →
    slice_get items at ≡ Some (item.Text number text) → new_changes ≡ changes ++ text_piece up number text → new_kids ≡ kids ++ number ∷ [] → PutsOne items up at changes kids (at + 1) new_changes new_kids
text_put items up at changes kids number text new_changes new_kids is is-changes is-kids old more some ends stand =
    text_first items up at changes kids number text more old new_changes new_kids some stand.leaves (next_left items at (item.Text number text) (items_of old ++ more) is stand.left) is-changes is-kids

pub comment_put : (items : List SubItem) (up : NodeName) (at : ℕ) (changes : List CellChange) (kids : List NodeName) (number : NodeName) (text : List ℕ) (new_changes : List CellChange) (new_kids : List NodeName) →
    slice_get items at ≡ Some (item.Comment number text) → new_changes ≡ changes ++ comment_piece up number text → new_kids ≡ kids ++ number ∷ [] → PutsOne items up at changes kids (at + 1) new_changes new_kids
comment_put items up at changes kids number text new_changes new_kids is is-changes is-kids old more some ends stand =
    comment_first items up at changes kids number text more old new_changes new_kids some stand.leaves (next_left items at (item.Comment number text) (items_of old ++ more) is stand.left) is-changes is-kids

-- the end of an element begins no neighbour
finish_first : (at : ℕ) (items more : List SubItem) (old : Forest) → IsSomeForest old → AreLeaves old → item.Finish ∷ drop (at + 1) items ≡ items_of old ++ more → ⊥
finish_first at items more none some leaves e = absurd some
finish_first at items more (node n Root below rest) some leaves e = absurd leaves
finish_first at items more (node n (Element name pairs) below rest) some leaves e = cc
finish_first at items more (node n (Text t) below rest) some leaves e = cc
finish_first at items more (node n (Comment t) below rest) some leaves e = cc

pub finish_put : (items : List SubItem) (up : NodeName) (at : ℕ) (changes : List CellChange) (kids : List NodeName) (to : ℕ) (new_changes : List CellChange) (new_kids : List NodeName) →
    slice_get items at ≡ Some item.Finish → PutsOne items up at changes kids to new_changes new_kids
finish_put items up at changes kids to new_changes new_kids is old more some ends stand =
    absurd (finish_first at items more old some stand.leaves (next_left items at item.Finish (items_of old ++ more) is stand.left))

-- several in a row
pub goes_on_none : (items : List SubItem) (up : NodeName) (at : ℕ) (changes : List CellChange) (kids : List NodeName) (more : List SubItem) (old : Forest) → StandAt items at old more →
    GoesOn items up at changes kids more old at changes kids
goes_on_none items up at changes kids more old stand = record { new = old; stand = stand; changed = refl; numbered = refl; place = refl }

-- where an item stands that ends no neighbours, there is one left
some_at : (items : List SubItem) (at : ℕ) (x : SubItem) (more : List SubItem) → (x ≡ item.Finish → ⊥) → EndHere more → x ∷ drop (at + 1) items ≡ more → ⊥
some_at items at x [] goes ends e = cc
some_at items at x (item.Begin n a l ∷ more) goes ends e = absurd ends
some_at items at x (item.Text n u ∷ more) goes ends e = absurd ends
some_at items at x (item.Comment n u ∷ more) goes ends e = absurd ends
some_at items at x (item.Finish ∷ more) goes ends e = goes (cc)

some_left : (items : List SubItem) (at : ℕ) (x : SubItem) (f : Forest) (more : List SubItem) → slice_get items at ≡ Some x → (x ≡ item.Finish → ⊥) → EndHere more → StandAt items at f more → IsSomeForest f
some_left items at x (node n body kids rest) more is goes ends stand = tt
some_left items at x none more is goes ends stand = absurd (some_at items at x more goes ends (next_left items at x more is stand.left))

pub goes_on_then : (items : List SubItem) (up : NodeName) (at : ℕ) (changes : List CellChange) (kids : List NodeName) (more : List SubItem) (old : Forest)
    (to : ℕ) (changes₁ : List CellChange) (kids₁ : List NodeName) (next : ℕ) (changes₂ : List CellChange) (kids₂ : List NodeName) (x : SubItem) →
    slice_get items to ≡ Some x → (x ≡ item.Finish → ⊥) → EndHere more → GoesOn items up at changes kids more old to changes₁ kids₁ → PutsOne items up to changes₁ kids₁ next changes₂ kids₂ →
    GoesOn items up at changes kids more old next changes₂ kids₂
goes_on_then items up at changes kids more old to changes₁ kids₁ next changes₂ kids₂ x is goes ends g p =
    let d = p g.new more (some_left items to x g.new more is goes ends g.stand) ends g.stand in
    record {
      new = d.new;
      stand = d.stand;
      changed = d.changed ∙ g.changed;
      numbered = d.numbered ∙ g.numbered;
      place = d.place ∙ g.place;
    }

-- the neighbours end
none_left : (xs : List SubItem) (f : Forest) (more : List SubItem) → EndHere xs → AreLeaves f → xs ≡ items_of f ++ more → f ≡ none
none_left xs none more ends leaves e = refl
none_left xs (node n Root kids rest) more ends leaves e = absurd leaves
none_left [] (node n (Element name pairs) kids rest) more ends leaves e = cc
none_left [] (node n (Text t) kids rest) more ends leaves e = cc
none_left [] (node n (Comment t) kids rest) more ends leaves e = cc
none_left (item.Begin k a l ∷ xs) (node n body kids rest) more ends leaves e = absurd ends
none_left (item.Text k u ∷ xs) (node n body kids rest) more ends leaves e = absurd ends
none_left (item.Comment k u ∷ xs) (node n body kids rest) more ends leaves e = absurd ends
none_left (item.Finish ∷ xs) (node n (Element name pairs) kids rest) more ends leaves e = cc
none_left (item.Finish ∷ xs) (node n (Text t) kids rest) more ends leaves e = cc
none_left (item.Finish ∷ xs) (node n (Comment t) kids rest) more ends leaves e = cc

pub all_put : (items : List SubItem) (up : NodeName) (at : ℕ) (changes : List CellChange) (none_yet : List NodeName) (more : List SubItem) (old : Forest) (to : ℕ) (new_changes : List CellChange) (kids : List NodeName) →
    none_yet ≡ [] → EndHere (drop to items) → GoesOn items up at changes none_yet more old to new_changes kids → IsPut up at changes old to new_changes kids
all_put items up at changes none_yet more old to new_changes kids is-none ends g =
    let nothing : g.new ≡ none = none_left (drop to items) g.new more ends g.stand.leaves g.stand.left in
    record {
      changed = sym (append-nil new_changes) ∙ ap (λ f. new_changes ++ puts (Some up.0) f) (sym nothing) ∙ g.changed;
      numbered = sym (append-nil kids) ∙ ap (λ f. kids ++ map named (numbers f)) (sym nothing) ∙ g.numbered ∙ ap (λ ks. ks ++ map named (numbers old)) is-none;
      place = let e : length (items_of g.new) ≡ 0 = ap (λ f. length (items_of f)) nothing in omega (arith, e, g.place);
    }

pub ends_at_finish : (items : List SubItem) (to : ℕ) → slice_get items to ≡ Some item.Finish → EndHere (drop to items)
ends_at_finish items to is = subst EndHere (next_left items to item.Finish (drop to items) is refl) tt

pub ends_at_end : (items : List SubItem) (to : ℕ) → length items ≤ to → EndHere (drop to items)
ends_at_end items to past = subst EndHere (sym (drop_all to items past)) tt

-- what is left behind an element's content: its end, and what follows
behind_content : (items : List SubItem) (at to n : ℕ) (content rest : List SubItem) → drop at items ≡ content ++ (item.Finish ∷ rest) → n ≡ length content → to ≡ at + n → drop to items ≡ item.Finish ∷ rest
behind_content items at to n content rest left is-n is-to =
    let moved : drop n (drop at items) ≡ item.Finish ∷ rest = ap (drop n) left ∙ drop_at content (item.Finish ∷ rest) n (sym is-n) in
    ap (λ k. drop k items) is-to ∙ sym (drop-drop n at items) ∙ moved

behind_finish : (items : List SubItem) (to : ℕ) (rest : List SubItem) → drop to items ≡ item.Finish ∷ rest → (to < length items) × (drop (to + 1) items ≡ rest)
behind_finish items to rest e =
    let long : length items - to ≡ length (item.Finish ∷ rest) = sym (length-drop to items) ∙ ap length e in
    (omega arith, sym (drop-drop 1 to items) ∙ ap (drop 1) e)

-- an element's first cells
abbrev pub begin_piece : NodeName → NodeName → NameId → List AttrPair → List CellChange
begin_piece up number name pairs = put facet.Label number.0 (kept.Label kind.Element (Some name)) ∷ put facet.Up number.0 (kept.Up (Some up)) ∷ put facet.Attrs number.0 (kept.Attrs pairs) ∷ []

abbrev last_change : NodeName → List NodeName → CellChange
last_change number kids = put facet.Kids number.0 (kept.Kids kids)

element_step : (items : List SubItem) (up : NodeName) (at : ℕ) (changes changes₁ changes₂ changes₃ : List CellChange) (kids inner new_kids : List NodeName) (to after n : ℕ) (more : List SubItem)
    (name : NameId) (pairs : List AttrPair) (content rest : Forest) → AreLeaves (node n (Element name pairs) content rest) → changes₁ ≡ changes ++ begin_piece up (named n) name pairs →
    PutsAll items (named n) (at + 1) changes₁ to changes₂ inner → changes₃ ≡ changes₂ ++ last_change (named n) inner ∷ [] → new_kids ≡ kids ++ named n ∷ [] → (to < length items → after ≡ to + 1) →
    drop (at + 1) items ≡ items_of content ++ (item.Finish ∷ (items_of rest ++ more)) → GoesOn items up at changes kids more (node n (Element name pairs) content rest) after changes₃ new_kids
element_step items up at changes changes₁ changes₂ changes₃ kids inner new_kids to after n more name pairs content rest leaves begun all closed is-kids is-after left =
    let p : IsPut (named n) (at + 1) changes₁ content to changes₂ inner = all content (item.Finish ∷ (items_of rest ++ more)) tt (record { leaves = leaves.0; left = left }) in
    let behind : drop to items ≡ item.Finish ∷ (items_of rest ++ more) = behind_content items (at + 1) to (length (items_of content)) (items_of content) (items_of rest ++ more) left refl p.place in
    let past = behind_finish items to (items_of rest ++ more) behind in
    let next : after ≡ to + 1 = is-after past.0 in
    let first : List CellChange = begin_piece up (named n) name pairs in
    let below : List CellChange = puts (Some n) content in
    let last : List CellChange = last_change (named n) (map named (numbers content)) ∷ [] in
    let is : changes₃ ≡ changes ++ (first ++ (below ++ last)) =
    closed
    ∙ ap (λ ks. changes₂ ++ last_change (named n) ks ∷ []) p.numbered
    ∙ ap (λ cs. cs ++ last) (p.changed ∙ ap (λ cs. cs ++ below) begun)
    ∙ append_assoc (changes ++ first) below last
    ∙ append_assoc changes first (below ++ last) in
    let whole : puts (Some up.0) (node n (Element name pairs) content rest) ≡ (first ++ (below ++ last)) ++ puts (Some up.0) rest =
    ap (λ cs. first ++ cs) (sym (append_assoc below last (puts (Some up.0) rest))) ∙ sym (append_assoc first (below ++ last) (puts (Some up.0) rest)) in
    goes_on items up at changes (first ++ (below ++ last)) kids more (node n (Element name pairs) content rest) rest (named n) after changes₃ new_kids is whole is-kids refl leaves.1
    (ap (λ k. drop k items) next ∙ past.1) (omega (arith, p.place, next, length-append (items_of content) (item.Finish ∷ items_of rest)))

element_first : (items : List SubItem) (up : NodeName) (at : ℕ) (changes changes₁ changes₂ changes₃ : List CellChange) (kids inner new_kids : List NodeName) (to after : ℕ) (more : List SubItem)
    (number : NodeName) (name : NameId) (pairs : List AttrPair) (old : Forest) → IsSomeForest old → AreLeaves old → item.Begin number name pairs ∷ drop (at + 1) items ≡ items_of old ++ more →
    changes₁ ≡ changes ++ begin_piece up number name pairs → PutsAll items number (at + 1) changes₁ to changes₂ inner → changes₃ ≡ changes₂ ++ last_change number inner ∷ [] →
    new_kids ≡ kids ++ number ∷ [] → (to < length items → after ≡ to + 1) → GoesOn items up at changes kids more old after changes₃ new_kids
element_first items up at changes changes₁ changes₂ changes₃ kids inner new_kids to after more number name pairs none some leaves e begun all closed is-kids is-after = absurd some
element_first items up at changes changes₁ changes₂ changes₃ kids inner new_kids to after more number name pairs (node n Root below rest) some leaves e begun all closed is-kids is-after = absurd leaves
element_first items up at changes changes₁ changes₂ changes₃ kids inner new_kids to after more number name pairs (node n (Text t) below rest) some leaves e begun all closed is-kids is-after = cc
element_first items up at changes changes₁ changes₂ changes₃ kids inner new_kids to after more number name pairs (node n (Comment t) below rest) some leaves e begun all closed is-kids is-after = cc
element_first items up at changes changes₁ changes₂ changes₃ kids inner new_kids to after more number name pairs (node n (Element m ps) below rest) some leaves e begun all closed is-kids is-after =
    let same : number ≡ named n = cc in
    let same_name : name ≡ m = cc in
    let same_pairs : pairs ≡ ps = cc in
    let tail : drop (at + 1) items ≡ (items_of below ++ (item.Finish ∷ items_of rest)) ++ more = cc in
    element_step items up at changes changes₁ changes₂ changes₃ kids inner new_kids to after n more m ps below rest leaves
    (begun ∙ ap (λ k. changes ++ begin_piece up k name pairs) same ∙ ap (λ k. changes ++ begin_piece up (named n) k pairs) same_name ∙ ap (λ k. changes ++ begin_piece up (named n) m k) same_pairs)
    (subst (λ k. PutsAll items k (at + 1) changes₁ to changes₂ inner) same all)
    (closed ∙ ap (λ k. changes₂ ++ last_change k inner ∷ []) same) (is-kids ∙ ap (λ k. kids ++ k ∷ []) same) is-after
    (tail ∙ append_assoc (items_of below) (item.Finish ∷ items_of rest) more)

pub element_put : (items : List SubItem) (up : NodeName) (at : ℕ) (changes changes₁ changes₂ changes₃ : List CellChange) (kids inner new_kids : List NodeName) (to after : ℕ)
    (number : NodeName) (name : NameId) (pairs : List AttrPair) → slice_get items at ≡ Some (item.Begin number name pairs) →
    changes₁ ≡ changes ++ begin_piece up number name pairs → PutsAll items number (at + 1) changes₁ to changes₂ inner → changes₃ ≡ changes₂ ++ last_change number inner ∷ [] →
    new_kids ≡ kids ++ number ∷ [] → (to < length items → after ≡ to + 1) → PutsOne items up at changes kids after changes₃ new_kids
element_put items up at changes changes₁ changes₂ changes₃ kids inner new_kids to after number name pairs is begun all closed is-kids is-after old more some ends stand =
    element_first items up at changes changes₁ changes₂ changes₃ kids inner new_kids to after more number name pairs old some stand.leaves
    (next_left items at (item.Begin number name pairs) (items_of old ++ more) is stand.left) begun all closed is-kids is-after
