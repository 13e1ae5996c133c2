-- Instructions, and others behind them.
use Rattle.std.proofs.Common.{◌≡◌, ℕ, Bool, true, false, not, ◌&&◌, List, [], ◌∷◌, ◌++◌, Some, None, refl, ap, ◌∙◌, codes}
use Rattle.std.specs.Prelude.{if◌then◌else◌}
use Rattle.std.specs.Option.{option_map}
use Rattle.serna_kinds.specs.declared.cells.NameId.{NameId}
use Rattle.serna_kinds.specs.declared.cells.AttrPair.{AttrPair}
use Rattle.serna_kinds.specs.Blanks.{is_blank}
use Rattle.serna_kinds.specs.Names.{NameParts}
use Rattle.tree_lines.specs.Given.{Given}
use Rattle.tree_lines.specs.Given as given
use Rattle.style_sheet.specs.declared.style.Instruction.{Instruction}
use Rattle.style_sheet.specs.declared.style.Instruction.TheVariants as stored
use Rattle.style_sheet.specs.Bodies.{body_of}
use Rattle.style_sheet.specs.Instructions.{Instructions, followed_by}
use Rattle.style_sheet.specs.Instructions as instruction
use Rattle.style_sheet.specs.Styles.{is_instruction, text_in, texts_in, keeps, body_in}
use Rattle.style_sheet.specs.Steps.{Reading, saying, text_at, after_text}

pub followed_by-nothing : (body : Instructions) → followed_by body instruction.nothing ≡ body
followed_by-nothing instruction.nothing = refl
followed_by-nothing (instruction.text t rest) = ap (instruction.text t) (followed_by-nothing rest)
followed_by-nothing (instruction.element name attributes content rest) =
    ap (instruction.element name attributes content) (followed_by-nothing rest)
followed_by-nothing (instruction.apply_templates rest) = ap instruction.apply_templates (followed_by-nothing rest)

pub followed_by-assoc : (a b c : Instructions) → followed_by (followed_by a b) c ≡ followed_by a (followed_by b c)
followed_by-assoc instruction.nothing b c = refl
followed_by-assoc (instruction.text t rest) b c = ap (instruction.text t) (followed_by-assoc rest b c)
followed_by-assoc (instruction.element name attributes content rest) b c =
    ap (instruction.element name attributes content) (followed_by-assoc rest b c)
followed_by-assoc (instruction.apply_templates rest) b c = ap instruction.apply_templates (followed_by-assoc rest b c)

-- instructions as they are stored
pub body_of-append : (first more : List Instruction) → body_of (first ++ more) ≡ followed_by (body_of first) (body_of more)
body_of-append [] more = refl
body_of-append (stored.Text t ∷ first) more = ap (instruction.text t) (body_of-append first more)
body_of-append (stored.Element name attributes content ∷ first) more =
    ap (instruction.element name attributes content) (body_of-append first more)
body_of-append (stored.ApplyTemplates ∷ first) more = ap instruction.apply_templates (body_of-append first more)

-- a text, the texts of an `xsl:text`, and an element of a body, with what stands behind them
pub text-behind : (kept : Bool) (t : List ℕ) (more : Instructions) →
    followed_by (text_in kept t instruction.nothing) more ≡ text_in kept t more
text-behind kept t more = by (is_blank t && not kept)
  where
    by : (b : Bool) → followed_by (if b then instruction.nothing else instruction.text t instruction.nothing) more
        ≡ (if b then more else instruction.text t more)
    by true = refl
    by false = refl

pub text-unsaid : (kept : Bool) (t : List ℕ) (more : Instructions) → is_blank t ≡ true → kept ≡ false → text_in kept t more ≡ more
text-unsaid kept t more blank lost = rw (blank, lost) refl

texts-behind : (tree : Given) (more : Instructions) → followed_by (texts_in tree instruction.nothing) more ≡ texts_in tree more
texts-behind given.end more = refl
texts-behind (given.text t rest) more = ap (instruction.text t) (texts-behind rest more)
texts-behind (given.comment t rest) more = texts-behind rest more
texts-behind (given.element name attributes line content rest) more = texts-behind rest more

abbrev pub inner_in : List NameParts → Bool → NameId → List AttrPair → Given → Instructions → Instructions
inner_in names kept name attributes content more =
    if is_instruction names (codes "text") name then texts_in content more
    else if is_instruction names (codes "apply-templates") name then instruction.apply_templates more
    else instruction.element name attributes (body_in names (keeps names kept attributes) content) more

pub inner-behind : (names : List NameParts) (kept : Bool) (name : NameId) (attributes : List AttrPair) (content : Given)
    (more : Instructions) →
    followed_by (inner_in names kept name attributes content instruction.nothing) more ≡ inner_in names kept name attributes content more
inner-behind names kept name attributes content more =
    by (is_instruction names (codes "text") name) (is_instruction names (codes "apply-templates") name)
    (body_in names (keeps names kept attributes) content)
  where
    by : (verbatim apply : Bool) (inside : Instructions) →
        followed_by (if verbatim then texts_in content instruction.nothing
        else if apply then instruction.apply_templates instruction.nothing
        else instruction.element name attributes inside instruction.nothing) more
        ≡ (if verbatim then texts_in content more else if apply then instruction.apply_templates more
        else instruction.element name attributes inside more)
    by true apply inside = texts-behind content more
    by false true inside = refl
    by false false inside = refl

-- what a text that says nothing leaves
pub saying-nothing : (s : Reading) → saying instruction.nothing s ≡ s
saying-nothing s = let same = followed_by-nothing s.body in λ i. record
    { here = s.here; around = s.around; opened = s.opened; body = same i; rules = s.rules; bodies = s.bodies }

pub unsaid : (s : Reading) (t : List ℕ) → text_at s.here t ≡ Some instruction.nothing → after_text s t ≡ Some s
unsaid s t e = ap (option_map (λ (more : Instructions). saying more s)) e ∙ ap Some (saying-nothing s)

pub unsaid-blank : (s : Reading) (t : List ℕ) (e : text_at s.here t ≡ (if is_blank t then Some instruction.nothing else None)) →
    is_blank t ≡ true → after_text s t ≡ Some s
unsaid-blank s t e blank = unsaid s t (e ∙ chosen (is_blank t) blank)
  where
    chosen : (b : Bool) → b ≡ true → (if b then Some instruction.nothing else None) ≡ Some instruction.nothing
    chosen true is = refl
    chosen false is = cc
