-- The one line of a result that does not begin with `fo:root`.
use Rattle.std.proofs.Common.{◌≡◌, ℕ, ◌-◌, Bool, true, false, List, [], ◌∷◌, ◌++◌, map, length, take, encode_utf8_all, codes, if◌then◌else◌, refl, sym, ap, ◌∙◌, arith}
use Rattle.std.proofs.lemmas.List.{append-nil, map-append}
use Rattle.std.proofs.lemmas.Str.{encodes-append}
use Rattle.std.proofs.Math.Seq.{take-length}
use Rattle.std.specs.Char.{encode_utf8}
use Rattle.std.specs.List.{flat_map}
use Rattle.serna_kinds.specs.Names.{NameParts}
use Rattle.result_origin.specs.declared.pages.Page.{Page}
use Rattle.result_origin.specs.Parts.{Mark}
use Rattle.simple_pages.specs.Groups.{ShownRun, runs_in, is_root, lines_in}
use Rattle.simple_pages.specs.Pages.{whole_part, line_at, lines_from, pages_of}
use Rattle.page_print.specs.Print.{printed, part_text, pages_text, plain_line}
use Rattle.plain_editor.specs.Views.{plain_text, result_text}
use Rattle.live_editor.specs.Shown.{laid_text}
use lib.Utf8.{next}

-- all runs as one line
part_printed : (run : ShownRun) → part_text (whole_part run) ≡ map printed (encode_utf8_all run.text)
part_printed run =
    let all : length (encode_utf8_all run.text) - 0 ≡ length (encode_utf8_all run.text) = omega arith in
    ap (λ n. map printed (take n (encode_utf8_all run.text))) all ∙ ap (map printed) (take-length (encode_utf8_all run.text))

runs_printed : (runs : List ShownRun) → flat_map part_text (map whole_part runs) ≡ map printed (encode_utf8_all (flat_map (λ (run : ShownRun). run.text) runs))
unfolding lib.Utf8.encode
runs_printed [] = refl
runs_printed (run ∷ runs) =
    let rest : List ℕ = flat_map (λ (r : ShownRun). r.text) runs in
    ap (λ l. l ++ flat_map part_text (map whole_part runs)) (part_printed run)
    ∙ ap (λ l. map printed (encode_utf8_all run.text) ++ l) (runs_printed runs)
    ∙ sym (map-append printed (encode_utf8_all run.text) (encode_utf8_all rest))
    ∙ ap (map printed) (sym (encodes-append run.text rest))

one_line : (runs : List ShownRun) → plain_line (record { number = 1; lines = line_at 0 runs ∷ [] } ∷ []) ≡ codes "plain " ++ (map printed (encode_utf8_all (flat_map (λ (run : ShownRun). run.text) runs)) ++ 10 ∷ [])
one_line runs =
    let line : List ℕ = flat_map part_text (map whole_part runs) in
    ap (λ l. codes "plain " ++ (l ++ 10 ∷ [])) (append-nil (line ++ []) ∙ append-nil line ∙ runs_printed runs)

by_root : (names : List NameParts) (marks : List Mark) (b : Bool) → is_root names marks ≡ b → laid_text b (pages_of names marks) ≡ result_text names marks
by_root names marks true e = ap (λ t. if t then pages_text (pages_of names marks) else plain_text marks) (sym e)
by_root names marks false e =
    ap (λ t. plain_line (record { number = 1; lines = if t then lines_from 0 (lines_in marks) else line_at 0 (runs_in marks) ∷ [] } ∷ [])) e ∙ one_line (runs_in marks)
    ∙ ap (λ t. if t then pages_text (pages_of names marks) else plain_text marks) (sym e)

pub laid_said : (names : List NameParts) (marks : List Mark) (rooted : Bool) (pages : List Page) → rooted ≡ is_root names marks → pages ≡ pages_of names marks → laid_text rooted pages ≡ result_text names marks
laid_said names marks rooted pages e f = ap (laid_text rooted) f ∙ by_root names marks rooted (sym e)
