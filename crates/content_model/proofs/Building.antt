-- What the builder's steps show.
use Rattle.std.proofs.Common.{◌≡◌, ◌≢◌, ℕ, Bool, true, false, cond, List, [], ◌∷◌, ◌++◌, map, reverse, Some, None, sym, refl, ap, ◌∙◌, arith, append_assoc, codes, ◌==◌}
use Rattle.std.proofs.lemmas.Bool.Decides.{nat_tests}
use Rattle.std.proofs.lemmas.List.{append-nil, reverse-reverse}
use Rattle.content_model.specs.declared.particle.Separator.TheVariants.{Sequence, Choice}
use Rattle.content_model.specs.declared.particle.Node.{Node}
use Rattle.content_model.specs.declared.builder.Place.TheVariants as place
use Rattle.content_model.specs.declared.builder.Builder.{Builder}
use Rattle.content_model.specs.declared.reader.NamePart.TheVariants.{First}
use Rattle.content_model.specs.Particle.{Particle, Content, Name, Joined, Repeated, Mixed, Group, renamed, with_names}
use Rattle.serna_kinds.specs.Qualified.{begins_name}
use Rattle.content_model.specs.Passes.{is_nullable, nodes_of}
use Rattle.content_model.specs.Stored.{first_particle, rest_particles, join_top}
use Rattle.content_model.specs.Kept.{from_nodes, particle_of, AreNodes}
use Rattle.content_model.specs.Machine.{Frame, State, Want, Behind, Mixing, MixedName, MixedEnd, MixedDone, NoContent, AnyContent, Slot, InGroup, InMixed, slot_state, Fixed, InName, begin_word, begin_text, finished}
use Rattle.content_model.specs.Shown.{Shows, shown_frame}
use Rattle.content_model.proofs.Marked.{is_nullable-bare}
use Rattle.content_model.proofs.Passing.{nodes_of-renamed}

-- `#` behind the first parenthesis
pub text_begins : (number : List ℕ → ℕ) (b : Builder) (f : Frame) (fs : List Frame) (byte : ℕ) → byte ≡ 35 → b.groups.items ≡ None ∷ [] → Shows number b (Want (f ∷ fs))
    → (begin_text f fs byte ≡ Some (Fixed (codes "PCDATA") (Mixing []))) × (reverse b.nodes.items ≡ [])
text_begins number b None [] byte e fresh shows = (ap (λ x. begin_text None [] x) e, shows.nodes_are)
text_begins number b None (g ∷ fs) byte e fresh shows = let all : None ∷ [] ≡ None ∷ (shown_frame g ∷ map shown_frame fs) = ap reverse (sym fresh) ∙ shows.groups_are in cc
text_begins number b (Some group) fs byte e fresh shows = let all : None ∷ [] ≡ shown_frame (Some group) ∷ map shown_frame fs = ap reverse (sym fresh) ∙ shows.groups_are in cc

pub no_text : (number : List ℕ → ℕ) (b : Builder) (f : Frame) (fs : List Frame) (byte : ℕ) → (b.groups.items ≡ None ∷ [] → ⊥) → Shows number b (Want (f ∷ fs)) → begin_text f fs byte ≡ None
no_text number b None [] byte other shows = absurd (other (sym (reverse-reverse b.groups.items) ∙ ap reverse shows.groups_are))
no_text number b None (g ∷ fs) byte other shows = refl
no_text number b (Some group) fs byte other shows = refl

pub not_equal : (a b : ℕ) → a ≢ b → (a == b) ≡ false
not_equal a b ne = grind (arith, nat_tests)

pub other_byte : (f : Frame) (fs : List Frame) (byte : ℕ) → byte ≢ 35 → begin_text f fs byte ≡ None
other_byte None [] byte ne = ap (λ v. cond v (Some (Fixed (codes "PCDATA") (Mixing []))) None) (not_equal byte 35 ne)
other_byte None (g ∷ fs) byte ne = refl
other_byte (Some group) fs byte ne = refl

-- a name where one is wanted in a group
pub name_begins : (number : List ℕ → ℕ) (b : Builder) (s : State) (byte : ℕ) → b.place ≡ place.Want → (b.groups.items ≡ [] → ⊥) → begins_name byte ≡ true → Shows number b s
    → (slot : Slot) × (begin_word s byte ≡ Some (InName First (byte ∷ []) slot)) × Shows number b (slot_state slot)
name_begins number b (Want []) byte at some begins shows = absurd (some (sym (reverse-reverse b.groups.items) ∙ ap reverse shows.groups_are))
name_begins number b (Want (f ∷ fs)) byte at some begins shows = (InGroup f fs, ap (λ v. cond v (Some (InName First (byte ∷ []) (InGroup f fs))) (begin_text f fs byte)) begins, shows)
name_begins number b (Behind signed fs p) byte at some begins shows = let no : place.Want ≡ place.Behind signed = sym at ∙ shows.place_is in cc
name_begins number b (Mixing names) byte at some begins shows = let no : place.Want ≡ place.Mixed = sym at ∙ shows.place_is in cc
name_begins number b (MixedName names) byte at some begins shows = let no : place.Want ≡ place.MixedName = sym at ∙ shows.place_is in cc
name_begins number b (MixedEnd names) byte at some begins shows = let no : place.Want ≡ place.MixedEnd = sym at ∙ shows.place_is in cc
name_begins number b (MixedDone names) byte at some begins shows = let no : place.Want ≡ place.MixedDone = sym at ∙ shows.place_is in cc
name_begins number b NoContent byte at some begins shows = let no : place.Want ≡ place.Empty = sym at ∙ shows.place_is in cc
name_begins number b AnyContent byte at some begins shows = let no : place.Want ≡ place.Any = sym at ∙ shows.place_is in cc

-- else `#PCDATA`
pub text_instead : (number : List ℕ → ℕ) (b : Builder) (s : State) (byte : ℕ) → b.place ≡ place.Want → (b.groups.items ≡ [] → ⊥) → begins_name byte ≡ false → Shows number b s
    → (f : Frame) × (fs : List Frame) × (begin_text f fs byte ≡ begin_word s byte) × Shows number b (Want (f ∷ fs))
text_instead number b (Want []) byte at some begins shows = absurd (some (sym (reverse-reverse b.groups.items) ∙ ap reverse shows.groups_are))
text_instead number b (Want (f ∷ fs)) byte at some begins shows = (f, fs, sym (ap (λ v. cond v (Some (InName First (byte ∷ []) (InGroup f fs))) (begin_text f fs byte)) begins), shows)
text_instead number b (Behind signed fs p) byte at some begins shows = let no : place.Want ≡ place.Behind signed = sym at ∙ shows.place_is in cc
text_instead number b (Mixing names) byte at some begins shows = let no : place.Want ≡ place.Mixed = sym at ∙ shows.place_is in cc
text_instead number b (MixedName names) byte at some begins shows = let no : place.Want ≡ place.MixedName = sym at ∙ shows.place_is in cc
text_instead number b (MixedEnd names) byte at some begins shows = let no : place.Want ≡ place.MixedEnd = sym at ∙ shows.place_is in cc
text_instead number b (MixedDone names) byte at some begins shows = let no : place.Want ≡ place.MixedDone = sym at ∙ shows.place_is in cc
text_instead number b NoContent byte at some begins shows = let no : place.Want ≡ place.Empty = sym at ∙ shows.place_is in cc
text_instead number b AnyContent byte at some begins shows = let no : place.Want ≡ place.Any = sym at ∙ shows.place_is in cc

-- a name in a mixed model
pub mixed_begins : (number : List ℕ → ℕ) (b : Builder) (s : State) (byte : ℕ) → b.place ≡ place.MixedName → begins_name byte ≡ true → Shows number b s
    → (slot : Slot) × (begin_word s byte ≡ Some (InName First (byte ∷ []) slot)) × Shows number b (slot_state slot)
mixed_begins number b (MixedName names) byte at begins shows = (InMixed names, ap (λ v. cond v (Some (InName First (byte ∷ []) (InMixed names))) None) begins, shows)
mixed_begins number b (Want fs) byte at begins shows = let no : place.MixedName ≡ place.Want = sym at ∙ shows.place_is in cc
mixed_begins number b (Behind signed fs p) byte at begins shows = let no : place.MixedName ≡ place.Behind signed = sym at ∙ shows.place_is in cc
mixed_begins number b (Mixing names) byte at begins shows = let no : place.MixedName ≡ place.Mixed = sym at ∙ shows.place_is in cc
mixed_begins number b (MixedEnd names) byte at begins shows = let no : place.MixedName ≡ place.MixedEnd = sym at ∙ shows.place_is in cc
mixed_begins number b (MixedDone names) byte at begins shows = let no : place.MixedName ≡ place.MixedDone = sym at ∙ shows.place_is in cc
mixed_begins number b NoContent byte at begins shows = let no : place.MixedName ≡ place.Empty = sym at ∙ shows.place_is in cc
mixed_begins number b AnyContent byte at begins shows = let no : place.MixedName ≡ place.Any = sym at ∙ shows.place_is in cc

-- nodes give their particle back
pub from_nodes-nodes_of : {A : Type 0} (number : A → ℕ) (p : Particle A) (ns : List Node) → from_nodes (nodes_of number p ++ ns) ≡ renamed number p ∷ from_nodes ns
from_nodes-nodes_of number (Name n) ns = refl
from_nodes-nodes_of number (Joined Sequence p q) ns =
    ap (λ l. join_top Sequence (from_nodes l)) (append_assoc (nodes_of number q) (nodes_of number p) ns)
    ∙ ap (join_top Sequence) (from_nodes-nodes_of number q (nodes_of number p ++ ns) ∙ ap (λ l. renamed number q ∷ l) (from_nodes-nodes_of number p ns))
from_nodes-nodes_of number (Joined Choice p q) ns =
    ap (λ l. join_top Choice (from_nodes l)) (append_assoc (nodes_of number q) (nodes_of number p) ns)
    ∙ ap (join_top Choice) (from_nodes-nodes_of number q (nodes_of number p ++ ns) ∙ ap (λ l. renamed number q ∷ l) (from_nodes-nodes_of number p ns))
from_nodes-nodes_of number (Repeated o p) ns = ap (λ l. Repeated o (first_particle l) ∷ rest_particles l) (from_nodes-nodes_of number p ns)

-- the nodes of a whole group
pub whole_group : (number : List ℕ → ℕ) (p : Particle (List ℕ)) (nodes : List Node) (nullable : Bool) → reverse nodes ≡ nodes_of number p ++ [] → nullable ≡ is_nullable p
    → (particle_of nodes ≡ renamed number p) × AreNodes nodes nullable
whole_group number p nodes nullable e n =
    let same : particle_of nodes ≡ renamed number p = ap (λ l. first_particle (from_nodes l)) e ∙ ap first_particle (from_nodes-nodes_of number p []) in (
      same,
      record {
        nodes_are = e ∙ append-nil (nodes_of number p) ∙ sym (nodes_of-renamed (λ n. n) number p) ∙ ap (nodes_of (λ n. n)) (sym same);
        nullable_is = n ∙ sym (is_nullable-bare number p) ∙ ap is_nullable (sym same);
      },
    )

-- a group may end where no group is open
pub group_ends : (number : List ℕ → ℕ) (b : Builder) (s : State) (signed : Bool) → b.place ≡ place.Behind signed → b.groups.items ≡ [] → Shows number b s
    → (written : Content (List ℕ)) × (finished s ≡ Some written) × (Group (particle_of b.nodes.items) ≡ with_names number written) × AreNodes b.nodes.items b.nullable
group_ends number b (Behind is_signed [] p) signed at none shows =
    let whole = whole_group number p b.nodes.items b.nullable shows.nodes_are shows.nullable_is in
    (Group p, refl, ap Group whole.0, whole.1)
group_ends number b (Behind is_signed (f ∷ fs) p) signed at none shows =
    let no : [] ≡ shown_frame f ∷ map shown_frame fs = ap reverse (sym none) ∙ shows.groups_are in cc
group_ends number b (Want fs) signed at none shows = let no : place.Behind signed ≡ place.Want = sym at ∙ shows.place_is in cc
group_ends number b (Mixing names) signed at none shows = let no : place.Behind signed ≡ place.Mixed = sym at ∙ shows.place_is in cc
group_ends number b (MixedName names) signed at none shows = let no : place.Behind signed ≡ place.MixedName = sym at ∙ shows.place_is in cc
group_ends number b (MixedEnd names) signed at none shows = let no : place.Behind signed ≡ place.MixedEnd = sym at ∙ shows.place_is in cc
group_ends number b (MixedDone names) signed at none shows = let no : place.Behind signed ≡ place.MixedDone = sym at ∙ shows.place_is in cc
group_ends number b NoContent signed at none shows = let no : place.Behind signed ≡ place.Empty = sym at ∙ shows.place_is in cc
group_ends number b AnyContent signed at none shows = let no : place.Behind signed ≡ place.Any = sym at ∙ shows.place_is in cc

pub group_open : (number : List ℕ → ℕ) (b : Builder) (s : State) (signed : Bool) → b.place ≡ place.Behind signed → (b.groups.items ≡ [] → ⊥) → Shows number b s → finished s ≡ None
group_open number b (Behind is_signed [] p) signed at some shows = absurd (some (sym (reverse-reverse b.groups.items) ∙ ap reverse shows.groups_are))
group_open number b (Behind is_signed (f ∷ fs) p) signed at some shows = refl
group_open number b (Want fs) signed at some shows = refl
group_open number b (Mixing names) signed at some shows = refl
group_open number b (MixedName names) signed at some shows = refl
group_open number b (MixedEnd names) signed at some shows = let no : place.Behind signed ≡ place.MixedEnd = sym at ∙ shows.place_is in cc
group_open number b (MixedDone names) signed at some shows = let no : place.Behind signed ≡ place.MixedDone = sym at ∙ shows.place_is in cc
group_open number b NoContent signed at some shows = let no : place.Behind signed ≡ place.Empty = sym at ∙ shows.place_is in cc
group_open number b AnyContent signed at some shows = let no : place.Behind signed ≡ place.Any = sym at ∙ shows.place_is in cc

-- a mixed model without names may end without its star, and one with it may end
pub mixed_ends : (number : List ℕ → ℕ) (b : Builder) (s : State) → b.place ≡ place.MixedEnd → b.names.items ≡ [] → Shows number b s
    → (written : Content (List ℕ)) × (finished s ≡ Some written) × (Mixed b.names.items ≡ with_names number written) × Unit {0}
mixed_ends number b (MixedEnd []) at none shows = (Mixed [], refl, ap Mixed none, tt)
mixed_ends number b (MixedEnd (name ∷ names)) at none shows = let no : [] ≡ number name ∷ map number names = sym none ∙ shows.names_are in cc
mixed_ends number b (Want fs) at none shows = let no : place.MixedEnd ≡ place.Want = sym at ∙ shows.place_is in cc
mixed_ends number b (Behind signed fs p) at none shows = let no : place.MixedEnd ≡ place.Behind signed = sym at ∙ shows.place_is in cc
mixed_ends number b (Mixing names) at none shows = let no : place.MixedEnd ≡ place.Mixed = sym at ∙ shows.place_is in cc
mixed_ends number b (MixedName names) at none shows = let no : place.MixedEnd ≡ place.MixedName = sym at ∙ shows.place_is in cc
mixed_ends number b (MixedDone names) at none shows = let no : place.MixedEnd ≡ place.MixedDone = sym at ∙ shows.place_is in cc
mixed_ends number b NoContent at none shows = let no : place.MixedEnd ≡ place.Empty = sym at ∙ shows.place_is in cc
mixed_ends number b AnyContent at none shows = let no : place.MixedEnd ≡ place.Any = sym at ∙ shows.place_is in cc

pub mixed_done : (number : List ℕ → ℕ) (b : Builder) (s : State) → b.place ≡ place.MixedDone → Shows number b s
    → (written : Content (List ℕ)) × (finished s ≡ Some written) × (Mixed b.names.items ≡ with_names number written) × Unit {0}
mixed_done number b (MixedDone names) at shows = (Mixed names, refl, ap Mixed shows.names_are, tt)
mixed_done number b (Want fs) at shows = let no : place.MixedDone ≡ place.Want = sym at ∙ shows.place_is in cc
mixed_done number b (Behind signed fs p) at shows = let no : place.MixedDone ≡ place.Behind signed = sym at ∙ shows.place_is in cc
mixed_done number b (Mixing names) at shows = let no : place.MixedDone ≡ place.Mixed = sym at ∙ shows.place_is in cc
mixed_done number b (MixedName names) at shows = let no : place.MixedDone ≡ place.MixedName = sym at ∙ shows.place_is in cc
mixed_done number b (MixedEnd names) at shows = let no : place.MixedDone ≡ place.MixedEnd = sym at ∙ shows.place_is in cc
mixed_done number b NoContent at shows = let no : place.MixedDone ≡ place.Empty = sym at ∙ shows.place_is in cc
mixed_done number b AnyContent at shows = let no : place.MixedDone ≡ place.Any = sym at ∙ shows.place_is in cc
