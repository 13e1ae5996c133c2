-- Without a stylesheet a result is its runs alone, and they say the text that the built-in rules make of the source.
use Rattle.std.proofs.Common.{◌≡◌, ℕ, zero, suc, ◌+◌, List, [], ◌∷◌, ◌++◌, map, ◌&&◌, true, is_some, if◌then◌else◌, Option, Some, None, refl, sym, ap, ◌∙◌, subst, append_assoc}
use Rattle.std.proofs.lemmas.List.{append-nil}
use Rattle.std.specs.List.{flat_map, onto_first}
use Rattle.serna_kinds.specs.declared.cells.NameId.{NameId}
use Rattle.serna_kinds.specs.declared.cells.AttrPair.{AttrPair}
use Rattle.serna_kinds.specs.declared.cells.NodeRef.TheVariants as node_ref
use Rattle.serna_kinds.specs.Names.{NameParts}
use Rattle.source_model.specs.Source.{Body, Forest, Source, numbers}
use Rattle.source_model.specs.Source as source
use Rattle.source_model.specs.Cells.{Spot, spot_of, named}
use Rattle.source_model.specs.PlainText.{own_text, spot_text, node_text, view_text}
use Rattle.result_origin.specs.Parts.{Mark, Run, Begin, Attr, AttrEnd, Finish, ResultPart, filled}
use Rattle.style_sheet.specs.Sheet.{no_style}
use Rattle.instance_store.specs.declared.request.Request.{Request}
use Rattle.instance_store.specs.declared.request.Asked.{Asked}
use Rattle.instance_store.specs.Requests.{apply_to, place_at, asked_at}
use Rattle.template_run.specs.Requests.{holes_for, root_request}
use Rattle.template_run.specs.Instances.{children_parts, built_in_parts}
use Rattle.template_run.specs.Batch.{whole, batch}
use Rattle.simple_pages.specs.Groups.{ShownRun, groups_in}
use Rattle.plain_editor.specs.Views.{texts_of}

-- the marks are runs, which say this text
abbrev Say : List Mark → List ℕ → Type 0
Say [] text = text ≡ []
Say (Run t from ∷ marks) text = (rest : List ℕ) × (text ≡ t ++ rest) × Say marks rest
Say (Begin name rule ∷ marks) text = ⊥
Say (Attr name ∷ marks) text = ⊥
Say (AttrEnd ∷ marks) text = ⊥
Say (Finish ∷ marks) text = ⊥

say_both : (a b : List Mark) (t u : List ℕ) → Say a t → Say b u → Say (a ++ b) (t ++ u)
say_both [] b t u says more = subst (λ x. Say b (x ++ u)) (sym says) more
say_both (Run text from ∷ a) b t u says more = (says.0 ++ u, ap (λ x. x ++ u) says.1 ∙ append_assoc text says.0 u, say_both a b says.0 u says.2 more)
say_both (Begin name rule ∷ a) b t u says more = absurd says
say_both (Attr name ∷ a) b t u says more = absurd says
say_both (AttrEnd ∷ a) b t u says more = absurd says
say_both (Finish ∷ a) b t u says more = absurd says

-- the texts of runs, one after another
onto_text : (run : ShownRun) (groups : List (List ShownRun)) →
    flat_map (λ (r : ShownRun). r.text) (flat_map (λ (g : List ShownRun). g) (onto_first run groups)) ≡ run.text ++ flat_map (λ (r : ShownRun). r.text) (flat_map (λ (g : List ShownRun). g) groups)
onto_text run [] = refl
onto_text run (group ∷ groups) = refl

said_text : (marks : List Mark) (text : List ℕ) → Say marks text → texts_of marks ≡ text
said_text [] text says = sym says
said_text (Run t from ∷ marks) text says = onto_text (record { text = t; origin = from }) (groups_in 0 marks) ∙ ap (λ x. t ++ x) (said_text marks says.0 says.2) ∙ sym says.1
said_text (Begin name rule ∷ marks) text says = absurd says
said_text (Attr name ∷ marks) text says = absurd says
said_text (AttrEnd ∷ marks) text says = absurd says
said_text (Finish ∷ marks) text says = absurd says

-- templates are applied to the node of a number
abbrev request_for : ℕ → Request
request_for n = apply_to None (node_ref.Node (named n))

-- what is asked for gives these texts, at whatever place it stands
abbrev Gives : (Asked → List Mark) → (ℕ → List ℕ) → Type 0
Gives fill text = (n position size : ℕ) → Say (fill (asked_at (request_for n) (place_at position size))) (text n)

holes_say : (fill : Asked → List Mark) (text : ℕ → List ℕ) → Gives fill text → (position size : ℕ) (ns : List ℕ) →
    Say (filled fill (holes_for None position size (map named ns))) (flat_map text ns)
holes_say fill text gives position size [] = refl
holes_say fill text gives position size (n ∷ ns) =
    say_both (fill (asked_at (request_for n) (place_at position size))) (filled fill (holes_for None (position + 1) size (map named ns)))
    (text n) (flat_map text ns)
    (gives n position size) (holes_say fill text gives (position + 1) size ns)

element_says : (fill : Asked → List Mark) (text : ℕ → List ℕ) → Gives fill text →
    (n : ℕ) (name : NameId) (attributes : List AttrPair) (kids : Forest) →
    Say (filled fill (children_parts None (named n) (source.Element name attributes) kids)) (flat_map text (numbers kids))
element_says fill text gives n name attributes source.none = ([], refl, refl)
element_says fill text gives n name attributes (source.node k body below rest) = holes_say fill text gives 1 _ (k ∷ numbers rest)

body_says : (fill : Asked → List Mark) (text : ℕ → List ℕ) → Gives fill text → (n : ℕ) (up : Option ℕ) (body : Body) (kids : Forest) →
    Say (filled fill (built_in_parts None (named n) (record { up = up; body = body; kids = kids }) body))
    (own_text body (flat_map text (numbers kids)))
body_says fill text gives n up source.Root kids = holes_say fill text gives 1 _ (numbers kids)
body_says fill text gives n up (source.Element name attributes) kids = element_says fill text gives n name attributes kids
body_says fill text gives n up (source.Text t) kids = ([], sym (append-nil t), refl)
body_says fill text gives n up (source.Comment t) kids = refl

-- the parts of the node of a number, if it is there
abbrev spot_parts : ℕ → Option Spot → List (ResultPart Asked)
spot_parts n spot = if is_some spot && true then elim spot [ None ↦ [] | Some here ↦ built_in_parts None (named n) here here.body ] else []

spot_says : (fill : Asked → List Mark) (text : ℕ → List ℕ) → Gives fill text → (n : ℕ) (spot : Option Spot) →
    Say (filled fill (spot_parts n spot)) (spot_text text spot)
spot_says fill text gives n None = refl
spot_says fill text gives n (Some spot) = body_says fill text gives n spot.up spot.body spot.kids

whole_says : (names : List NameParts) (left : ℕ) (s : Source) (n position size : ℕ) →
    Say (whole names no_style left (request_for n) (place_at position size) s) (node_text left s n)
unfolding whole node_text
whole_says names zero s n position size = ([], refl, refl)
whole_says names (suc left) s n position size =
    spot_says (λ (asked : Asked). whole names no_style left asked.request asked.place s) (node_text left s)
    (λ m at among. whole_says names left s m at among) n (spot_of s n)

pub texts_of-batch : (names : List NameParts) (s : Source) → texts_of (batch names no_style s) ≡ view_text s
unfolding batch view_text
texts_of-batch names s =
    said_text (whole names no_style 200 root_request (place_at 1 1) s) (node_text 200 s 0) (whole_says names 200 s 0 1 1)

pub ruleset all = texts_of-batch
