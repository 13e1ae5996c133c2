-- The replies to a script, so far and from there on.
use Rattle.std.proofs.Common.{◌≡◌, ℕ, ◌+◌, ◌<◌, Option, List, [], ◌∷◌, ◌++◌, map, take, drop, length, get_or, refl, sym, ap, ◌∙◌, append_assoc}
use Rattle.std.proofs.lemmas.List.{append-nil, take-append-drop, map-append, take_more}
use Rattle.tree_lines.specs.declared.tree.Line.{Line}
use Rattle.serna_outside.specs.Outside.{Appends}
use Rattle.style_sheet.specs.Sheet.{StyleValue}
use Rattle.plain_editor.specs.Editor.{Editor, step, reply_text, replies}
use Rattle.page_print.specs.Outside.{AppendsFront}

abbrev pub bytes_of : List Line → List (List ℕ)
bytes_of lines = map (λ (line : Line). line.bytes) lines

-- the editor after a script
abbrev pub after : StyleValue → Editor → List (List ℕ) → Editor
after style editor [] = editor
after style editor (line ∷ script) = after style (step style editor line).0 script

-- what a command line is answered
abbrev pub answer : StyleValue → Editor → List ℕ → List ℕ
answer style editor line = reply_text (step style editor line).1

behind_first : (first rest more all : List ℕ) → all ≡ rest ++ more → first ++ all ≡ (first ++ rest) ++ more
behind_first first rest more all is = ap (λ r. first ++ r) is ∙ sym (append_assoc first rest more)

-- the replies to a script and to what follows it
pub replies-append : (style : StyleValue) (editor : Editor) (xs ys : List (List ℕ)) → replies style editor (xs ++ ys) ≡ replies style editor xs ++ replies style (after style editor xs) ys
replies-append style editor [] ys = refl
replies-append style editor (x ∷ xs) ys =
    behind_first (reply_text (step style editor x).1) (replies style (step style editor x).0 xs) (replies style (after style (step style editor x).0 xs) ys) (replies style (step style editor x).0 (xs ++ ys)) (replies-append style (step style editor x).0 xs ys)

pub after-append : (style : StyleValue) (editor : Editor) (xs ys : List (List ℕ)) → after style editor (xs ++ ys) ≡ after style (after style editor xs) ys
after-append style editor [] ys = refl
after-append style editor (x ∷ xs) ys = after-append style (step style editor x).0 xs ys

-- one line more
taken : (i : ℕ) (script : List Line) (line : Line) → i < length script → line ≡ get_or script i line → bytes_of (take (i + 1) script) ≡ bytes_of (take i script) ++ (line.bytes ∷ [])
taken i script line within is =
    ap bytes_of (take_more script i line within ∙ ap (λ (l : Line). take i script ++ (l ∷ [])) (sym is)) ∙ map-append (λ (line : Line). line.bytes) (take i script) (line ∷ [])

pub after_more : (style : StyleValue) (editor : Editor) (i : ℕ) (script : List Line) (line : Line) → i < length script → line ≡ get_or script i line →
    after style editor (bytes_of (take (i + 1) script)) ≡ (step style (after style editor (bytes_of (take i script))) line.bytes).0
after_more style editor i script line within is = ap (after style editor) (taken i script line within is) ∙ after-append style editor (bytes_of (take i script)) (line.bytes ∷ [])

pub replies_more : (style : StyleValue) (editor : Editor) (i : ℕ) (script : List Line) (line : Line) → i < length script → line ≡ get_or script i line →
    replies style editor (bytes_of (take (i + 1) script)) ≡ replies style editor (bytes_of (take i script)) ++ answer style (after style editor (bytes_of (take i script))) line.bytes
replies_more style editor i script line within is = ap (replies style editor) (taken i script line within is) ∙ replies-append style editor (bytes_of (take i script)) (line.bytes ∷ [])
    ∙ ap (λ s. replies style editor (bytes_of (take i script)) ++ s) (append-nil (answer style (after style editor (bytes_of (take i script))) line.bytes))

-- the replies so far, and those to the rest
pub replies_split : (style : StyleValue) (editor : Editor) (i : ℕ) (script : List Line) →
    replies style editor (bytes_of script) ≡ replies style editor (bytes_of (take i script)) ++ replies style (after style editor (bytes_of (take i script))) (bytes_of (drop i script))
replies_split style editor i script =
    ap (λ s. replies style editor (bytes_of s)) (sym (take-append-drop i script)) ∙ ap (replies style editor) (map-append (λ (line : Line). line.bytes) (take i script) (drop i script))
    ∙ replies-append style editor (bytes_of (take i script)) (bytes_of (drop i script))

-- the replies so far, the next one, and those behind it
pub replies_next : (style : StyleValue) (editor : Editor) (i : ℕ) (script : List Line) (line : Line) → i < length script → line ≡ get_or script i line →
    replies style editor (bytes_of script) ≡
    replies style editor (bytes_of (take i script)) ++ (answer style (after style editor (bytes_of (take i script))) line.bytes ++ replies style (after style editor (bytes_of (take (i + 1) script))) (bytes_of (drop (i + 1) script)))
replies_next style editor i script line within is =
    let so_far : List ℕ = replies style editor (bytes_of (take i script)) in
    let more : List ℕ = replies style (after style editor (bytes_of (take (i + 1) script))) (bytes_of (drop (i + 1) script)) in
    replies_split style editor (i + 1) script ∙ ap (λ s. s ++ more) (replies_more style editor i script line within is) ∙ append_assoc so_far (answer style (after style editor (bytes_of (take i script))) line.bytes) more

-- a line's answer, and the editor behind the line, by another name of the editor before it
pub answer_at : (style : StyleValue) (editor at : Editor) (bytes text line line₁ : List ℕ) → bytes ≡ text → text ≡ answer style editor line → line ≡ line₁ → editor ≡ at → bytes ≡ answer style at line₁
answer_at style editor at bytes text line line₁ held is same here = held ∙ is ∙ ap (answer style editor) same ∙ ap (λ e. answer style e line₁) here

pub step_at : (style : StyleValue) (editor at new : Editor) (line line₁ : List ℕ) → new ≡ (step style editor line).0 → line ≡ line₁ → editor ≡ at → new ≡ (step style at line₁).0
step_at style editor at new line line₁ is same here = is ∙ ap (λ l. (step style editor l).0) same ∙ ap (λ e. (step style e line₁).0) here

-- the replies so far are a front of all
pub front_so_far : (style : StyleValue) (editor : Editor) (i : ℕ) (script : List Line) (a b : Option (List ℕ)) → Appends a b (replies style editor (bytes_of (take i script))) → AppendsFront a b (replies style editor (bytes_of script))
front_so_far style editor i script a b written =
    (replies style editor (bytes_of (take i script)), replies style (after style editor (bytes_of (take i script))) (bytes_of (drop i script)), replies_split style editor i script, written)
