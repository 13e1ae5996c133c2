-- String-values: how texts are joined, and what is read for it.
use Rattle.std.proofs.Common.{◌≡◌, ℕ, zero, suc, ◌<◌, ◌≤◌, Bool, IsTrue, cond, List, [], ◌∷◌, ◌++◌, map, Option, Some, None, Result, Ok, Err, is_ok, IfOk, OnOk, refl, sym, ◌∙◌, ap, subst, append-nil, arith, if◌then◌else◌, ◌==◌, ◌+◌, true, false, take, get_or, length, true≢false}
use Rattle.std.specs.Option.{option_map}
use Rattle.std.specs.List.{flat_map, AllByRecursion}
use Rattle.std.specs.Str.{chars, IsUtf8}
use Rattle.std.proofs.lemmas.Str.{chars-append}
use Rattle.std.proofs.lemmas.Option.{none-some}
use Rattle.std.proofs.lemmas.Bool.{eq-eqb}
use Rattle.std.proofs.lemmas.List.{take_more, flat_map_more}
use Rattle.std.proofs.lemmas.List.Elements.{All-head, All-tail}
use Rattle.serna_kinds.specs.declared.cells.NodeName.{NodeName}
use Rattle.serna_kinds.specs.declared.cells.NameId.{NameId}
use Rattle.serna_kinds.specs.declared.cells.NodeRef.TheVariants as ref
use Rattle.serna_kinds.specs.declared.cells.Kind.{Kind}
use Rattle.serna_kinds.specs.declared.cells.Kind.TheVariants as kind
use Rattle.serna_kinds.specs.declared.cells.AttrPair.{AttrPair}
use Rattle.serna_kinds.specs.declared.cells.Cell.{Cell}
use Rattle.serna_kinds.specs.declared.cells.Facet.TheVariants as facet
use Rattle.serna_kinds.specs.declared.expressions.Axis.TheVariants as axis
use Rattle.serna_kinds.specs.Names.{NameParts}
use Rattle.serna_kinds.specs.Tape.{Within}
use Rattle.source_model.specs.Source.{Body, Root, Element, Text, Comment, Forest, none, node, Source, numbers}
use Rattle.source_model.specs.Cells.{Spot, spot_of, kind_of, named}
use Rattle.source_model.specs.Proper.{IsProper, AreNodes, depth_of}
use Rattle.source_model.specs.Attributes.{pairs_of}
use Rattle.source_model.specs.Axes.{own_characters, texts_in, node_string, string_of, value_of}
use Rattle.source_model.specs.Logged.{cell_at, refs_cells, every}
use Rattle.xpath_axes.specs.Nodes.{children_in, children_of, characters_in, characters_of, kids_at, attributes_at, value_among}
use Rattle.xpath_axes.specs.Strings.{joined, kind_at, texts_at, MayJoin, string_cells}
use Rattle.xpath_axes.proofs.Inner.{AreInner, inner_first, inner_kids, inner_rest, inner_of, not_deep}
use Rattle.xpath_axes.proofs.Inside.{all_numbers, descendants, descendants_gone, all_front, all_back}

-- what a text shows after a write that may have failed
pub shown_written : {A E : Type 0} (r : Result A E) (old new more shown cs : List ℕ) → IsUtf8 old → chars old ≡ shown → chars more ≡ cs → new ≡ cond (is_ok r) (old ++ more) old → OnOk r (chars new ≡ shown ++ cs)
shown_written (Ok x) old new more shown cs u e f w = ap chars w ∙ (chars-append old more u ∙ cc)
shown_written (Err x) old new more shown cs u e f w = tt

-- what a node gives, by its kind
abbrev number : Kind → ℕ
number kind.Root = 0
number kind.Element = 1
number kind.Text = 2
number kind.Comment = 3

-- two kinds of different numbers are not the same
other_kind : (a b : Kind) → (number a == number b) ≡ false → a ≡ b → ⊥
other_kind a b apart e = true≢false (sym (eq-eqb (number a) (number b) (ap number e)) ∙ apart)

abbrev or_kind : Kind → Option Kind → Kind
or_kind k None = k
or_kind k (Some other) = other

-- a node that is found to be of a kind is of that kind
pub found_kind : (o : Option Spot) (found : Option Kind) (k : Kind) (spot : Spot) → found ≡ option_map kind_at o → found ≡ Some k → o ≡ Some spot → kind_of spot.body ≡ k
found_kind o found k spot is some at = ap (or_kind k) (sym (ap (option_map kind_at) at) ∙ sym is ∙ some)

pub is_found : (o : Option Spot) (found : Option Kind) (k : Kind) → found ≡ option_map kind_at o → found ≡ Some k → (spot : Spot) × (o ≡ Some spot)
is_found None found k is some = absurd (none-some k (sym is ∙ some))
is_found (Some spot) found k is some = (spot, refl)

text_of_body : (body : Body) (kids : Forest) (give : NodeName → List ℕ) (cs : List ℕ) → kind_of body ≡ kind.Text → cs ≡ characters_in body → own_characters body ++ flat_map give (children_in body kids) ≡ cs
text_of_body Root kids give cs e is = absurd (other_kind kind.Root kind.Text refl e)
text_of_body (Element other pairs) kids give cs e is = absurd (other_kind kind.Element kind.Text refl e)
text_of_body (Text text) kids give cs e is = append-nil text ∙ sym is
text_of_body (Comment text) kids give cs e is = absurd (other_kind kind.Comment kind.Text refl e)

pub joined_text : (o : Option Spot) (found : Option Kind) (k : Kind) (give : NodeName → List ℕ) (cs : List ℕ) → found ≡ option_map kind_at o → found ≡ Some k → k ≡ kind.Text →
    ((spot : Spot) → o ≡ Some spot → cs ≡ characters_of spot) → joined give o ≡ cs
joined_text None found k give cs is some e told = absurd (none-some k (sym is ∙ some))
joined_text (Some spot) found k give cs is some e told = text_of_body spot.body spot.kids give cs (found_kind (Some spot) found k spot is some refl ∙ e) (told spot refl)

comment_of_body : (body : Body) (kids : Forest) (give : NodeName → List ℕ) → kind_of body ≡ kind.Comment → own_characters body ++ flat_map give (children_in body kids) ≡ []
comment_of_body Root kids give e = absurd (other_kind kind.Root kind.Comment refl e)
comment_of_body (Element other pairs) kids give e = absurd (other_kind kind.Element kind.Comment refl e)
comment_of_body (Text text) kids give e = absurd (other_kind kind.Text kind.Comment refl e)
comment_of_body (Comment text) kids give e = refl

pub joined_comment : (o : Option Spot) (found : Option Kind) (k : Kind) (give : NodeName → List ℕ) → found ≡ option_map kind_at o → found ≡ Some k → k ≡ kind.Comment → joined give o ≡ []
joined_comment None found k give is some e = refl
joined_comment (Some spot) found k give is some e = comment_of_body spot.body spot.kids give (found_kind (Some spot) found k spot is some refl ∙ e)

pub joined_none : (o : Option Spot) (found : Option Kind) (give : NodeName → List ℕ) → found ≡ option_map kind_at o → found ≡ None → joined give o ≡ []
joined_none None found give is absent = refl
joined_none (Some spot) found give is absent = absurd (none-some (kind_of spot.body) (sym absent ∙ is))

abbrev kids_by : Option Spot → List NodeName
kids_by o = elim o [ None ↦ [] | Some spot ↦ children_of spot ]

root_of_body : (body : Body) (kids : Forest) (give : NodeName → List ℕ) → kind_of body ≡ kind.Root → own_characters body ++ flat_map give (children_in body kids) ≡ flat_map give (children_in body kids)
root_of_body Root kids give e = refl
root_of_body (Element other pairs) kids give e = refl
root_of_body (Text text) kids give e = absurd (other_kind kind.Text kind.Root refl e)
root_of_body (Comment text) kids give e = refl

pub joined_root : (o : Option Spot) (found : Option Kind) (k : Kind) (give : NodeName → List ℕ) → found ≡ option_map kind_at o → found ≡ Some k → k ≡ kind.Root → joined give o ≡ flat_map give (kids_by o)
joined_root None found k give is some e = refl
joined_root (Some spot) found k give is some e = root_of_body spot.body spot.kids give (found_kind (Some spot) found k spot is some refl ∙ e)

element_of_body : (body : Body) (kids : Forest) (give : NodeName → List ℕ) → kind_of body ≡ kind.Element → own_characters body ++ flat_map give (children_in body kids) ≡ flat_map give (children_in body kids)
element_of_body Root kids give e = refl
element_of_body (Element other pairs) kids give e = refl
element_of_body (Text text) kids give e = absurd (other_kind kind.Text kind.Element refl e)
element_of_body (Comment text) kids give e = refl

pub joined_element : (o : Option Spot) (found : Option Kind) (k : Kind) (give : NodeName → List ℕ) → found ≡ option_map kind_at o → found ≡ Some k → k ≡ kind.Element → joined give o ≡ flat_map give (kids_by o)
joined_element None found k give is some e = refl
joined_element (Some spot) found k give is some e = element_of_body spot.body spot.kids give (found_kind (Some spot) found k spot is some refl ∙ e)

-- the children that were read
pub kids_told : (o : Option Spot) (kids : List NodeName) → ((spot : Spot) → o ≡ Some spot → kids ≡ children_of spot) → (o ≡ None → kids ≡ []) → kids ≡ kids_by o
kids_told None kids told absent = absent refl
kids_told (Some spot) kids told absent = told spot refl

pub texts_more : (give : NodeName → List ℕ) (nodes : List NodeName) (i : ℕ) (d : NodeName) (old : List ℕ) → i < length nodes →
    (old ++ flat_map give (take i nodes)) ++ give (get_or nodes i d) ≡ old ++ flat_map give (take (i + 1) nodes)
texts_more give nodes i d old less = flat_map_more give old (take i nodes) (get_or nodes i d) ∙ sym (ap (λ (l : List NodeName). old ++ flat_map give l) (take_more nodes i d less))

pub all_at : (P : NodeName → Type 0) (nodes : List NodeName) (i : ℕ) (d : NodeName) → i < length nodes → AllByRecursion P nodes → P (get_or nodes i d)
all_at P [] i d less all = absurd (omega (arith, less))
all_at P (n ∷ ns) zero d less all = all.0
all_at P (n ∷ ns) (suc i) d less all = all_at P ns i d (omega (arith, less)) all.1

pub texts_none : (source : Source) (left : ℕ) (n : NodeName) → left ≡ 0 → texts_at source left n ≡ []
unfolding texts_at
texts_none source left n e = ap (λ l. texts_at source l n) e

pub texts_step : (source : Source) (left below : ℕ) (n : NodeName) → left ≡ suc below → texts_at source left n ≡ joined (texts_at source below) (spot_of source n.0)
unfolding texts_at
texts_step source left below n e = ap (λ l. texts_at source l n) e

-- the texts below a node of a proper source are those of the definition
texts_of_kids : (names : List NameParts) (source : Source) (left n : ℕ) (body : Body) (kids rest : Forest) → AreNodes names (node n body kids rest) → depth_of (node n body kids rest) < suc left →
    (depth_of kids < left → flat_map (texts_at source left) (map named (numbers kids)) ≡ texts_in kids) →
    own_characters body ++ flat_map (texts_at source left) (children_in body kids) ≡ own_characters body ++ texts_in kids
texts_of_kids names source left n Root kids rest nodes deep below = absurd nodes
texts_of_kids names source left n (Element name pairs) kids rest nodes deep below = below (omega (arith, deep))
texts_of_kids names source left n (Text text) kids rest nodes deep below = ap (λ (f : Forest). text ++ texts_in f) (sym nodes.2)
texts_of_kids names source left n (Comment text) kids rest nodes deep below = ap texts_in (sym nodes.0)

texts_below : (names : List NameParts) (source : Source) (up : Option ℕ) (left : ℕ) (f : Forest) → AreInner names source up f → depth_of f < left → flat_map (texts_at source left) (map named (numbers f)) ≡ texts_in f
texts_below names source up left none inner deep = refl
texts_below names source up zero (node n body kids rest) inner deep = absurd (omega (arith, deep))
texts_below names source up (suc left) (node n body kids rest) inner deep =
    ap (λ (t : List ℕ). t ++ flat_map (texts_at source (suc left)) (map named (numbers rest)))
    (texts_step source (suc left) left (named n) refl ∙ ap (joined (texts_at source left)) (inner_first names source up n body kids rest inner))
    ∙ ap (λ (t : List ℕ). t ++ flat_map (texts_at source (suc left)) (map named (numbers rest)))
    (texts_of_kids names source left n body kids rest inner.nodes deep (texts_below names source (Some n) left kids (inner_kids names source up n body kids rest inner)))
    ∙ ap (λ (t : List ℕ). (own_characters body ++ texts_in kids) ++ t)
    (texts_below names source up (suc left) rest (inner_rest names source up n body kids rest inner) (rest_less n body kids rest (suc left) deep))
  where
    rest_less : (n : ℕ) (body : Body) (kids rest : Forest) (left : ℕ) → depth_of (node n body kids rest) < left → depth_of rest < left
    rest_less n Root kids rest left deep = omega (arith, deep)
    rest_less n (Element name pairs) kids rest left deep = omega (arith, deep)
    rest_less n (Text text) kids rest left deep = omega (arith, deep)
    rest_less n (Comment text) kids rest left deep = omega (arith, deep)

string_of_body : (body : Body) (kids : Forest) (give : NodeName → List ℕ) → (kind_of body ≡ kind.Comment → ⊥) → flat_map give (map named (numbers kids)) ≡ texts_in kids →
    own_characters body ++ flat_map give (children_in body kids) ≡ elim body [ Root ↦ texts_in kids | Element name pairs ↦ texts_in kids | Text text ↦ text | Comment text ↦ text ]
string_of_body Root kids give other below = below
string_of_body (Element name pairs) kids give other below = below
string_of_body (Text text) kids give other below = append-nil text
string_of_body (Comment text) kids give other below = absurd (other refl)

abbrev string_by : Option Spot → List ℕ
string_by o = elim o [ None ↦ [] | Some spot ↦ node_string spot ]

string_at : (names : List NameParts) (source : Source) (n : NodeName) (found : Option Kind) (o : Option Spot) → IsProper names source → spot_of source n.0 ≡ o → found ≡ option_map kind_at o →
    (found ≡ Some kind.Comment → ⊥) → joined (texts_at source 121) o ≡ string_by o
string_at names source n found None proper at is other = refl
string_at names source n found (Some spot) proper at is other =
    let deep : depth_of spot.kids ≤ 120 = not_deep names source n.0 spot proper at in
    string_of_body spot.body spot.kids (texts_at source 121) (λ e. other (is ∙ ap Some e))
    (texts_below names source (Some n.0) 121 spot.kids (inner_of names source n.0 spot proper at) (omega (arith, deep)))

-- the string-value of what is no comment
pub string_joined : (names : List NameParts) (source : Source) (n : NodeName) (found : Option Kind) → IsProper names source → found ≡ option_map kind_at (spot_of source n.0) → (found ≡ Some kind.Comment → ⊥) →
    texts_at source 122 n ≡ string_of source (ref.Node n)
string_joined names source n found proper is other = texts_step source 122 121 n refl ∙ string_at names source n found (spot_of source n.0) proper refl is other

comment_string : (body : Body) (kids : Forest) (cs : List ℕ) → kind_of body ≡ kind.Comment → cs ≡ characters_in body →
    cs ≡ elim body [ Root ↦ texts_in kids | Element other pairs ↦ texts_in kids | Text text ↦ text | Comment text ↦ text ]
comment_string Root kids cs e is = absurd (other_kind kind.Root kind.Comment refl e)
comment_string (Element other pairs) kids cs e is = absurd (other_kind kind.Element kind.Comment refl e)
comment_string (Text text) kids cs e is = is
comment_string (Comment text) kids cs e is = is

pub string_comment : (o : Option Spot) (found : Option Kind) (cs : List ℕ) → found ≡ option_map kind_at o → found ≡ Some kind.Comment → ((spot : Spot) → o ≡ Some spot → cs ≡ characters_of spot) → cs ≡ string_by o
string_comment None found cs is some told = absurd (none-some kind.Comment (sym is ∙ some))
string_comment (Some spot) found cs is some told = comment_string spot.body spot.kids cs (found_kind (Some spot) found kind.Comment spot is some refl) (told spot refl)

-- an attribute's value
abbrev or_empty : Option (List ℕ) → List ℕ
or_empty None = []
or_empty (Some text) = text

value_by : (name : NameId) (pairs : List AttrPair) → or_empty (value_among name pairs) ≡ value_of name pairs
value_by name [] = refl
value_by name (pair ∷ pairs) = by (pair.name.0 == name.0) (value_by name pairs)
  where
    by : (b : Bool) → or_empty (value_among name pairs) ≡ value_of name pairs → or_empty (if b then Some pair.value else value_among name pairs) ≡ (if b then pair.value else value_of name pairs)
    by true rest = refl
    by false rest = rest

attribute_by : (o : Option Spot) (name : NameId) → value_of name (elim o [ None ↦ [] | Some spot ↦ pairs_of spot.body ]) ≡ elim o [ None ↦ [] | Some spot ↦ value_of name (pairs_of spot.body) ]
attribute_by None name = refl
attribute_by (Some spot) name = refl

pub string_attribute : (source : Source) (n : NodeName) (name : NameId) (pairs : List AttrPair) (text : Option (List ℕ)) → text ≡ value_among name pairs → pairs ≡ attributes_at source n →
    or_empty text ≡ string_of source (ref.Attr n name)
string_attribute source n name pairs text is at = ap or_empty is ∙ value_by name pairs ∙ ap (value_of name) at ∙ attribute_by (spot_of source n.0) name

-- what may be read
pub may_step : (allowed : Cell → Bool) (source : Source) (left below : ℕ) (n : NodeName) → left ≡ suc below → MayJoin allowed source left n →
    IsTrue (allowed (cell_at facet.Label n)) × IsTrue (allowed (cell_at facet.Kids n)) × IsTrue (allowed (cell_at facet.Text n)) × AllByRecursion (MayJoin allowed source below) (kids_at source n)
unfolding MayJoin
may_step allowed source left below n e may = subst (λ l. MayJoin allowed source l n) e may

abbrev MayOwn : (Cell → Bool) → NodeName → Type 0
MayOwn allowed n = IsTrue (allowed (cell_at facet.Label n)) × IsTrue (allowed (cell_at facet.Kids n)) × IsTrue (allowed (cell_at facet.Text n))

may_each : (allowed : Cell → Bool) (nodes : List NodeName) → Within allowed (refs_cells (facet.Label ∷ facet.Kids ∷ facet.Text ∷ []) (map ref.Node nodes)) → AllByRecursion (MayOwn allowed) nodes
may_each allowed [] within = tt
may_each allowed (n ∷ ns) within =
    let One : Cell → Type 0 = λ cell. IsTrue (allowed cell) in
    let rest : List Cell = refs_cells (facet.Label ∷ facet.Kids ∷ facet.Text ∷ []) (map ref.Node ns) in
    let label : Cell = cell_at facet.Label n in
    let kids : Cell = cell_at facet.Kids n in
    let text : Cell = cell_at facet.Text n in
    let one = All-tail One label (kids ∷ text ∷ rest) within in
    let two = All-tail One kids (text ∷ rest) one in
    ((All-head One label (kids ∷ text ∷ rest) within, All-head One kids (text ∷ rest) one, All-head One text rest two), may_each allowed ns (All-tail One text rest two))

may_kids : (allowed : Cell → Bool) (source : Source) (left : ℕ) (body : Body) (kids : Forest) → AllByRecursion (MayJoin allowed source left) (map named (numbers kids)) →
    AllByRecursion (MayJoin allowed source left) (children_in body kids)
may_kids allowed source left Root kids all = all
may_kids allowed source left (Element name pairs) kids all = all
may_kids allowed source left (Text text) kids all = tt
may_kids allowed source left (Comment text) kids all = tt

may_join : (allowed : Cell → Bool) (source : Source) (left : ℕ) (n : NodeName) (spot : Spot) → spot_of source n.0 ≡ Some spot → MayOwn allowed n →
    ((below : ℕ) → AllByRecursion (MayJoin allowed source below) (map named (numbers spot.kids))) → MayJoin allowed source left n
unfolding MayJoin
may_join allowed source zero n spot at own below = tt
may_join allowed source (suc left) n spot at own below =
    (own.0, own.1, own.2, subst (λ (o : Option Spot). AllByRecursion (MayJoin allowed source left) (kids_by o)) (sym at) (may_kids allowed source left spot.body spot.kids (below left)))

may_below : (names : List NameParts) (allowed : Cell → Bool) (source : Source) (up : Option ℕ) (left : ℕ) (f : Forest) → AreInner names source up f → AllByRecursion (MayOwn allowed) (map named (all_numbers f)) →
    AllByRecursion (MayJoin allowed source left) (map named (numbers f))
may_below names allowed source up left none inner all = tt
may_below names allowed source up left (node n body kids rest) inner all = (
  may_join allowed source left (named n) (record { up = up; body = body; kids = kids }) (inner_first names source up n body kids rest inner) all.0
      (λ below. may_below names allowed source (Some n) below kids (inner_kids names source up n body kids rest inner) (all_front (MayOwn allowed) (all_numbers kids) (all_numbers rest) all.1)),
  may_below names allowed source up left rest (inner_rest names source up n body kids rest inner) (all_back (MayOwn allowed) (all_numbers kids) (all_numbers rest) all.1),
)

may_gone : (allowed : Cell → Bool) (source : Source) (left : ℕ) (n : NodeName) → spot_of source n.0 ≡ None → MayOwn allowed n → MayJoin allowed source left n
unfolding MayJoin
may_gone allowed source zero n at own = tt
may_gone allowed source (suc left) n at own = (own.0, own.1, own.2, subst (λ (o : Option Spot). AllByRecursion (MayJoin allowed source left) (kids_by o)) (sym at) tt)

may_by : (names : List NameParts) (allowed : Cell → Bool) (source : Source) (left : ℕ) (n : NodeName) (o : Option Spot) → spot_of source n.0 ≡ o → IsProper names source →
    Within allowed (string_cells source (ref.Node n)) → MayJoin allowed source left n
may_by names allowed source left n None at proper within =
    may_gone allowed source left n at
    (may_each allowed (n ∷ []) (subst (λ rs. Within allowed (refs_cells (facet.Label ∷ facet.Kids ∷ facet.Text ∷ []) (ref.Node n ∷ rs))) (descendants_gone source n at) within)).0
may_by names allowed source left n (Some spot) at proper within =
    let all =
    may_each allowed (n ∷ map named (all_numbers spot.kids))
    (subst (λ rs. Within allowed (refs_cells (facet.Label ∷ facet.Kids ∷ facet.Text ∷ []) (ref.Node n ∷ rs))) (descendants source n spot at) within) in
    may_join allowed source left n spot at all.0 (λ below. may_below names allowed source (Some n.0) below spot.kids (inner_of names source n.0 spot proper at) all.1)

pub may_string : (names : List NameParts) (allowed : Cell → Bool) (source : Source) (left : ℕ) (n : NodeName) → IsProper names source → Within allowed (string_cells source (ref.Node n)) → MayJoin allowed source left n
may_string names allowed source left n proper within = may_by names allowed source left n (spot_of source n.0) refl proper within

-- from what a result says to what follows from it
pub ok_weaker : {A E : Type 0} {P Q : A → Type 0} (r : Result A E) → ((x : A) → P x → Q x) → IfOk r P → IfOk r Q
ok_weaker (Ok x) weaker says = weaker x says
ok_weaker (Err e) weaker says = tt

-- of an attribute its element's attributes may be read
pub may_attribute : (allowed : Cell → Bool) (source : Source) (n : NodeName) (name : NameId) → Within allowed (string_cells source (ref.Attr n name)) → IsTrue (allowed (cell_at facet.Attrs n))
may_attribute allowed source n name within =
    All-head (λ (cell : Cell). IsTrue (allowed cell)) (cell_at facet.Attrs n) (refs_cells (facet.Label ∷ facet.Kids ∷ facet.Text ∷ []) (every axis.Descendant source (ref.Attr n name))) within
