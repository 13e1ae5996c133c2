-- The lines of a page, and the parts of a line, one by one.
use Rattle.std.proofs.Common.{◌≡◌, ℕ, ◌+◌, ◌<◌, ◌≤◌, List, ◌++◌, drop, get_or, length, sym, ap, ◌∙◌, append_assoc}
use Rattle.std.proofs.lemmas.List.{append-nil, drop_more, drop_all}
use Rattle.std.specs.Str.{chars}
use Rattle.result_origin.specs.declared.pages.Line.{Line}
use Rattle.result_origin.specs.Pages.{PartValue, shown_bytes}
use Rattle.plain_editor.specs.Stops.{Boundary, run_boundaries, part_boundaries, line_boundaries}

pub line_done : (page number i : ℕ) (lines : List Line) (line : Line) (parts : List PartValue) (now new whole : List Boundary) → i < length lines → line ≡ get_or lines i line → now ++ line_boundaries page number (drop i lines) ≡ whole →
    parts ≡ line.parts → new ≡ now ++ part_boundaries page number 0 parts → new ++ line_boundaries page (number + 1) (drop (i + 1) lines) ≡ whole
line_done page number i lines line parts now new whole within here so_far is pushed =
    let rest : List Boundary = line_boundaries page (number + 1) (drop (i + 1) lines) in
    ap (λ bs. bs ++ rest) pushed ∙ append_assoc now (part_boundaries page number 0 parts) rest ∙ ap (λ ps. now ++ (part_boundaries page number 0 ps ++ rest)) (is ∙ ap (λ (l : Line). l.parts) here)
    ∙ ap (λ ls. now ++ line_boundaries page number ls) (sym (drop_more lines i line within)) ∙ so_far

pub lines_done : (page number i : ℕ) (lines : List Line) (now whole : List Boundary) → length lines ≤ i → now ++ line_boundaries page number (drop i lines) ≡ whole → now ≡ whole
lines_done page number i lines now whole past so_far = sym (append-nil now) ∙ ap (λ ls. now ++ line_boundaries page number ls) (sym (drop_all i lines past)) ∙ so_far

pub part_done : (page line column next i : ℕ) (parts : List PartValue) (part : PartValue) (now new whole : List Boundary) → i < length parts → part ≡ get_or parts i part →
    now ++ part_boundaries page line column (drop i parts) ≡ whole →
    new ≡ now ++ run_boundaries page line column part.start part.run.origin (chars (shown_bytes part)) → next ≡ column + length (chars (shown_bytes part)) →
    new ++ part_boundaries page line next (drop (i + 1) parts) ≡ whole
part_done page line column next i parts part now new whole within is so_far pushed moved =
    ap (λ bs. bs ++ part_boundaries page line next (drop (i + 1) parts)) pushed
    ∙ ap (λ n. (now ++ run_boundaries page line column part.start part.run.origin (chars (shown_bytes part))) ++ part_boundaries page line n (drop (i + 1) parts)) moved
    ∙ append_assoc now (run_boundaries page line column part.start part.run.origin (chars (shown_bytes part))) (part_boundaries page line (column + length (chars (shown_bytes part))) (drop (i + 1) parts))
    ∙ ap (λ (p : PartValue). now ++ (run_boundaries page line column p.start p.run.origin (chars (shown_bytes p)) ++ part_boundaries page line (column + length (chars (shown_bytes p))) (drop (i + 1) parts))) is
    ∙ ap (λ ps. now ++ part_boundaries page line column ps) (sym (drop_more parts i part within)) ∙ so_far

pub parts_done : (page line column i : ℕ) (parts : List PartValue) (now whole : List Boundary) → length parts ≤ i → now ++ part_boundaries page line column (drop i parts) ≡ whole → now ≡ whole
parts_done page line column i parts now whole past so_far = sym (append-nil now) ∙ ap (λ ps. now ++ part_boundaries page line column ps) (sym (drop_all i parts past)) ∙ so_far
