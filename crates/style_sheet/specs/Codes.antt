-- A code of instructions, by which proofs tell them apart: they are stored as the list of what stands in a body, each element followed by
-- its content and then by what stands behind it, None standing where a body ends.
use Rattle.std.specs.Prelude.{◌≡◌, ℕ, List, [], ◌∷◌, Option, Some, None, refl, ◌⊎◌}
use Rattle.std.proofs.Common.{ap, ◌∙◌, inl, inr}
use Rattle.std.specs.Coded.{Coded, code_by, coded⊎, coded_ℕ, coded_list, coded_option}
use Rattle.serna_kinds.specs.declared.cells.NameId.{NameId}
use Rattle.serna_kinds.specs.declared.cells.AttrPair.{AttrPair}
use Rattle.style_sheet.specs.Instructions.{Instructions, nothing, text, element, apply_templates}

abbrev pub Mark : Type 0
Mark = Option (List ℕ ⊎ Option (NameId × List AttrPair))

abbrev pub marks_before : Instructions → List Mark → List Mark
marks_before nothing more = None ∷ more
marks_before (text t rest) more = Some (inl t) ∷ marks_before rest more
marks_before (element name attributes content rest) more =
    Some (inr (Some (name, attributes))) ∷ marks_before content (marks_before rest more)
marks_before (apply_templates rest) more = Some (inr None) ∷ marks_before rest more

-- a text, or an application of templates, in front of the innermost of the bodies that were read back, and an element in front of two
abbrev pub onto_text : List ℕ → List Instructions → List Instructions
onto_text t [] = []
onto_text t (rest ∷ more) = text t rest ∷ more

abbrev pub onto_element : NameId × List AttrPair → List Instructions → List Instructions
onto_element p [] = []
onto_element p (content ∷ []) = []
onto_element p (content ∷ rest ∷ more) = element p.0 p.1 content rest ∷ more

abbrev pub onto_apply : List Instructions → List Instructions
onto_apply [] = []
onto_apply (rest ∷ more) = apply_templates rest ∷ more

abbrev pub read_back : List Mark → List Instructions
read_back [] = []
read_back (None ∷ marks) = nothing ∷ read_back marks
read_back (Some (inl t) ∷ marks) = onto_text t (read_back marks)
read_back (Some (inr (Some p)) ∷ marks) = onto_element p (read_back marks)
read_back (Some (inr None) ∷ marks) = onto_apply (read_back marks)

abbrev pub first_body : List Instructions → Instructions
first_body [] = nothing
first_body (body ∷ more) = body

pub read_back-marks_before : (body : Instructions) (more : List Mark) → read_back (marks_before body more) ≡ body ∷ read_back more
read_back-marks_before nothing more = refl
read_back-marks_before (text t rest) more = ap (onto_text t) (read_back-marks_before rest more)
read_back-marks_before (element name attributes content rest) more =
    ap (onto_element (name, attributes))
    (read_back-marks_before content (marks_before rest more) ∙ ap (λ bodies. content ∷ bodies) (read_back-marks_before rest more))
read_back-marks_before (apply_templates rest) more = ap onto_apply (read_back-marks_before rest more)

abbrev pub body_code : Coded (NameId × List AttrPair) → Coded Instructions
body_code pair =
    code_by (List Mark) (coded_list (coded_option (coded⊎ (coded_list coded_ℕ) (coded_option pair)))) (λ body. marks_before body [])
    (λ marks. first_body (read_back marks))
    (λ body. ap first_body (read_back-marks_before body []))
