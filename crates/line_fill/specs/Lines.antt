-- The lines of a paragraph (XSL 1.1, 4.7.2 and 4.7.3, with 7.16.3 text-align, 7.16.11 text-indent and 7.16.4 line-height).
use Rattle.std.specs.Prelude.{ℕ, ◌-◌, ◌/◌, ◌==◌, ℤ, pos, List, map, slice_range, if◌then◌else◌}
use Rattle.std.specs.List.{fold}
use Rattle.std.specs.Int.{int_max}
use Rattle.result_origin.specs.declared.pages.Line.{Line}
use Rattle.result_origin.specs.Pages.{PartValue}
use Rattle.line_fill.specs.declared.para.Para.{Para}
use Rattle.line_fill.specs.declared.para.Align.{Align}
use Rattle.line_fill.specs.declared.para.Align.TheVariants.{Start, Center, End}
use Rattle.line_fill.specs.declared.clusters.Cluster.{Cluster}
use Rattle.line_fill.specs.declared.spans.Span.{Span}
use Rattle.line_fill.specs.Sums.{natural, plus, minus}
use Rattle.line_fill.specs.Clusters.{all_clusters}
use Rattle.line_fill.specs.Cuts.{used}
use Rattle.line_fill.specs.Spans.{spans_of}
use Rattle.line_fill.specs.Parts.{parts_from}

-- the first line alone is indented
abbrev pub indent_at : Para → ℕ → ℤ
indent_at para from = if from == 0 then para.indent else pos 0

-- the space for the line that begins with a cluster
abbrev pub room_at : Para → ℕ → ℕ
room_at para from = natural (minus para.width (indent_at para from))

-- how much of the free width stands before the text
abbrev pub moved : Align → ℕ → ℕ
moved Start free = 0
moved Center free = free / 2
moved End free = free

abbrev pub free_in : Para → List Cluster → Span → ℕ
free_in para clusters span = room_at para span.from - used (slice_range clusters span.from span.to)

abbrev pub x_of : Para → List Cluster → Span → ℤ
x_of para clusters span = plus (plus para.left (indent_at para span.from)) (pos (moved para.align (free_in para clusters span)))

-- as high as the highest of the block and the line's runs
abbrev pub height_of : ℤ → List PartValue → ℤ
height_of least parts = fold int_max least (map (λ (part : PartValue). part.run.line_height) parts)

abbrev pub line_of : Para → Span → Line
line_of para span = record {
  x = x_of para (all_clusters para.runs) span;
  down = pos 0;
  height = height_of para.line_height (parts_from span 0 para.runs);
  parts = parts_from span 0 para.runs;
}

unfoldable pub lines_of : Para → List Line
lines_of para = map (line_of para) (spans_of (room_at para) (all_clusters para.runs))
