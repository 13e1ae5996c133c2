-- How pages are printed (this project's own): `page N`, then each line as `line K X Y TEXT`, numbered from 1 on each page, and behind it
-- `face A B SIZE WEIGHT STYLE COLOUR GROUND` for each of its parts that shows something and is not set in plain 12pt black, A and B being
-- the columns before and behind it. A result without layout is printed as `plain TEXT`.
use Rattle.std.specs.Prelude.{ℕ, ◌+◌, ◌/◌, ◌%◌, ◌==◌, ◌&&◌, ◌||◌, not, nat_lt, pos, Bool, true, false, List, [], ◌∷◌, ◌++◌, map, Option, Some, None, is_some, codes, decimal, if◌then◌else◌}
use Rattle.std.specs.List.{flat_map, sum}
use Rattle.std.specs.Ordering.{int_eq}
use Rattle.std.specs.Fmt.{signed_decimal}
use Rattle.text_units.specs.Clusters.{clusters_of}
use Rattle.text_units.specs.Columns.{columns_of}
use Rattle.result_origin.specs.declared.pages.Face.{Face}
use Rattle.result_origin.specs.declared.pages.Line.{Line}
use Rattle.result_origin.specs.declared.pages.Page.{Page}
use Rattle.result_origin.specs.Pages.{PartValue, shown_bytes}

-- a byte as it is printed: a tab and LF as a space
abbrev pub printed : ℕ → ℕ
printed b = if b == 9 || b == 10 then 32 else b

abbrev pub part_text : PartValue → List ℕ
part_text part = map printed (shown_bytes part)

-- parts of a printed line, with a space between them
abbrev pub spaced : List ℕ → List ℕ → List ℕ
spaced before behind = before ++ 32 ∷ behind

-- `line K X Y TEXT`
abbrev pub line_text : ℕ → Line → List ℕ
line_text number line =
    spaced (codes "line") (spaced (decimal number) (spaced (signed_decimal line.x) (spaced (signed_decimal line.down) (flat_map part_text line.parts ++ 10 ∷ []))))

-- Faces

-- a digit of a colour, in lower case
abbrev pub hex_digit : ℕ → ℕ
hex_digit n = if nat_lt n 10 then 48 + n else 87 + n

-- a colour by six digits
abbrev pub color_text : ℕ → List ℕ
color_text n = hex_digit (n / 1048576 % 16) ∷ hex_digit (n / 65536 % 16) ∷ hex_digit (n / 4096 % 16) ∷ hex_digit (n / 256 % 16) ∷ hex_digit (n / 16 % 16) ∷ hex_digit (n % 16) ∷ []

abbrev pub weight_text : Bool → List ℕ
weight_text true = codes "bold"
weight_text false = codes "normal"

abbrev pub style_text : Bool → List ℕ
style_text true = codes "italic"
style_text false = codes "normal"

abbrev pub background_text : Option ℕ → List ℕ
background_text None = codes "none"
background_text (Some color) = color_text color

-- SIZE WEIGHT STYLE COLOUR GROUND
abbrev pub face_words : Face → List ℕ
face_words face =
    spaced (signed_decimal face.size) (spaced (weight_text face.bold) (spaced (style_text face.italic) (spaced (color_text face.color) (background_text face.background))))

-- plain 12pt black
abbrev pub is_plain : Face → Bool
is_plain face = int_eq face.size (pos 12000) && not face.bold && not face.italic && face.color == 0 && not (is_some face.background)

-- the columns of a text (UAX 29 and UAX 11)
abbrev pub columns_in : List ℕ → ℕ
columns_in text = sum (map columns_of (clusters_of text))

abbrev pub is_nothing : List ℕ → Bool
is_nothing [] = true
is_nothing (b ∷ bs) = false

-- `face A B SIZE WEIGHT STYLE COLOUR GROUND`
abbrev pub face_line : ℕ → ℕ → Face → List ℕ
face_line from to face = spaced (codes "face") (spaced (decimal from) (spaced (decimal to) (face_words face ++ 10 ∷ [])))

abbrev pub face_text : ℕ → PartValue → List ℕ
face_text column part =
    if is_nothing (shown_bytes part) || is_plain part.run.face then []
    else face_line column (column + columns_in (shown_bytes part)) part.run.face

-- the faces of a line's parts, the first of which begins in this column
abbrev pub faces_text : ℕ → List PartValue → List ℕ
faces_text column [] = []
faces_text column (part ∷ parts) = face_text column part ++ faces_text (column + columns_in (shown_bytes part)) parts

-- lines with their faces, numbered from a number on
abbrev pub lines_text : ℕ → List Line → List ℕ
lines_text number [] = []
lines_text number (line ∷ lines) = line_text number line ++ (faces_text 0 line.parts ++ lines_text (number + 1) lines)

abbrev pub page_text : Page → List ℕ
page_text page = spaced (codes "page") (decimal page.number ++ 10 ∷ []) ++ lines_text 1 page.lines

abbrev pub pages_text : List Page → List ℕ
pages_text pages = flat_map page_text pages

-- Pages without layout

-- what lines and pages show, one part after another
abbrev pub line_shown : Line → List ℕ
line_shown line = flat_map part_text line.parts

abbrev pub page_shown : Page → List ℕ
page_shown page = flat_map line_shown page.lines

-- `plain TEXT`: what pages show, as one line
abbrev pub plain_line : List Page → List ℕ
plain_line pages = codes "plain " ++ (flat_map page_shown pages ++ 10 ∷ [])
