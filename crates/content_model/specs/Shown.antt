-- How the reader's state shows in the code. No public clause speaks of it.
use Rattle.std.specs.Prelude.{◌≡◌, ℕ, Bool, true, false, List, [], ◌∷◌, ◌++◌, map, reverse, Option, Some, None}
use Rattle.content_model.specs.declared.particle.Node.{Node}
use Rattle.content_model.specs.declared.builder.Mark.{Mark}
use Rattle.content_model.specs.declared.builder.Mark.TheVariants as mark
use Rattle.content_model.specs.declared.builder.Place.{Place}
use Rattle.content_model.specs.declared.builder.Place.TheVariants as place
use Rattle.content_model.specs.declared.builder.Begun.{Begun}
use Rattle.content_model.specs.declared.builder.Begun.TheVariants as begun
use Rattle.content_model.specs.declared.builder.Joined.{Joined as Group_joined}
use Rattle.content_model.specs.declared.builder.Builder.{Builder}
use Rattle.content_model.specs.declared.model.Rule.{Rule}
use Rattle.content_model.specs.declared.reader.NamePart.TheVariants.{First}
use Rattle.content_model.specs.Particle.{Particle, Content, with_names}
use Rattle.content_model.specs.Grammar.{Token, Open, Close, Between, Times}
use Rattle.content_model.specs.Passes.{is_nullable, nodes_of}
use Rattle.content_model.specs.Kept.{content_of, IsKept}
use Rattle.content_model.specs.Machine.{Frame, State, Want, Behind, Mixing, MixedName, MixedEnd, MixedDone, NoContent, AnyContent, Slot, slot_state, Reading, Fixed, InName, gather}

abbrev pub token_of : Mark → Token
token_of mark.Open = Open
token_of mark.Close = Close
token_of (mark.Between s) = Between s
token_of (mark.Times o) = Times o

abbrev pub place_of : State → Place
place_of (Want fs) = place.Want
place_of (Behind signed fs p) = place.Behind signed
place_of (Mixing names) = place.Mixed
place_of (MixedName names) = place.MixedName
place_of (MixedEnd names) = place.MixedEnd
place_of (MixedDone names) = place.MixedDone
place_of NoContent = place.Empty
place_of AnyContent = place.Any

-- the groups that are open, the innermost first
abbrev pub frames_of : State → List Frame
frames_of (Want fs) = fs
frames_of (Behind signed fs p) = fs
frames_of (Mixing names) = None ∷ []
frames_of (MixedName names) = None ∷ []
frames_of (MixedEnd names) = None ∷ []
frames_of (MixedDone names) = None ∷ []
frames_of NoContent = []
frames_of AnyContent = []

-- the names of a mixed model so far
abbrev pub names_of : State → List (List ℕ)
names_of (Want fs) = []
names_of (Behind signed fs p) = []
names_of (Mixing names) = names
names_of (MixedName names) = names
names_of (MixedEnd names) = names
names_of (MixedDone names) = names
names_of NoContent = []
names_of AnyContent = []

abbrev pub shown_frame : Frame → Option Group_joined
shown_frame None = None
shown_frame (Some group) = Some (record { separator = group.0; nullable = is_nullable group.1 })

module _ (number : List ℕ → ℕ) where
  -- the nodes of the parts of the groups that are open, the last one first
  abbrev pub frame_nodes : List Frame → List Node
  frame_nodes [] = []
  frame_nodes (None ∷ fs) = frame_nodes fs
  frame_nodes (Some group ∷ fs) = nodes_of number group.1 ++ frame_nodes fs

  abbrev pub state_nodes : State → List Node
  state_nodes (Want fs) = frame_nodes fs
  state_nodes (Behind signed fs p) = nodes_of number p ++ frame_nodes fs
  state_nodes _ = []

-- whether the last part allows no children, where there is one
abbrev pub NullableIs : Bool → State → Type 0
NullableIs nullable (Behind signed fs p) = nullable ≡ is_nullable p
NullableIs nullable _ = Unit {0}

-- the builder is in this state, and has these numbers for the names
pub record Shows (number : List ℕ → ℕ) (b : Builder) (s : State) : Type 0 where
  pub place_is : b.place ≡ place_of s
  pub groups_are : reverse b.groups.items ≡ map shown_frame (frames_of s)
  pub nodes_are : reverse b.nodes.items ≡ state_nodes number s
  pub nullable_is : NullableIs b.nullable s
  pub names_are : b.names.items ≡ map number (names_of s)

-- a token is taken exactly where the machine takes it, and then the builder is in the next state
abbrev pub Moves : (List ℕ → ℕ) → Bool → Builder → Option State → Type 0
Moves number ok b None = ok ≡ false
Moves number ok b (Some s) = (ok ≡ true) × Shows number b s

-- the nodes and the test of a part are joined to those of its group
abbrev pub Joins : Option Group_joined → List Node → List Node → Bool → Bool → Type 0
Joins group old new nullable joined = (number : List ℕ → ℕ) (f : Frame) (fs : List Frame) (p : Particle (List ℕ))
    → shown_frame f ≡ group → reverse old ≡ nodes_of number p ++ frame_nodes number (f ∷ fs) → nullable ≡ is_nullable p
    → (reverse new ≡ nodes_of number (gather f p) ++ frame_nodes number fs) × (joined ≡ is_nullable (gather f p))

-- a byte begins what the machine says
abbrev pub Begins : (List ℕ → ℕ) → ℕ → Begun → Builder → Option Reading → Type 0
Begins number byte begun.Nothing b reading = reading ≡ None
Begins number byte begun.Name b reading = (slot : Slot) × (reading ≡ Some (InName First (byte ∷ []) slot)) × Shows number b (slot_state slot)
Begins number byte (begun.Fixed word) b reading = (s : State) × (reading ≡ Some (Fixed word.now s)) × Shows number b s

-- the model is the machine's, each name replaced by its number
abbrev pub Ends : (List ℕ → ℕ) → Option Rule → Option (Content (List ℕ)) → Type 0
Ends number None content = content ≡ None
Ends number (Some rule) content = (written : Content (List ℕ)) × (content ≡ Some written) × (content_of rule ≡ with_names number written) × IsKept rule
