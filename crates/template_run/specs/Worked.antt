-- A worked example: a document of two paragraphs, of which one is empty, under a rule for `/` and one for `p`.
use Rattle.std.specs.Prelude.{ℕ, List, [], ◌∷◌, pos, codes, Some, None}
use Rattle.serna_kinds.specs.declared.cells.NameId.{NameId}
use Rattle.serna_kinds.specs.declared.cells.AttrPair.{AttrPair}
use Rattle.serna_kinds.specs.Names.{NameParts, name_parts, plain_name}
use Rattle.source_model.specs.Source.{Root, Element, Text, none, node, Source}
use Rattle.source_model.specs.Cells.{named}
use Rattle.result_origin.specs.declared.origin.Origin.TheVariants as origin
use Rattle.result_origin.specs.Parts.{Mark, Run, Begin, Attr, AttrEnd, Finish}
use Rattle.style_sheet.specs.declared.style.Pattern.{Pattern}
use Rattle.style_sheet.specs.declared.style.Pattern.TheVariants as pattern
use Rattle.style_sheet.specs.declared.style.Rule.{Rule}
use Rattle.style_sheet.specs.Instructions.{Instructions}
use Rattle.style_sheet.specs.Instructions as instruction
use Rattle.style_sheet.specs.Sheet.{StyleValue}

abbrev pub formatting : List ℕ → NameParts
formatting local = name_parts (codes "http://www.w3.org/1999/XSL/Format") local (codes "fo")

abbrev pub worked_names : List NameParts
worked_names = plain_name (codes "doc") ∷ plain_name (codes "p") ∷ formatting (codes "root") ∷ formatting (codes "page-sequence") ∷ formatting (codes "flow") ∷ plain_name (codes "flow-name") ∷ formatting (codes "block") ∷ []

abbrev pub numbered_name : ℕ → NameId
numbered_name n = record { 0 = n }

abbrev pub rule_at : ℕ → Pattern → Rule
rule_at place pattern = record { pattern = Some pattern; name = None; mode = None; precedence = 0; priority = pos 0; place = place; lowest = 0; body = place }

-- the rule for `/` sets up the pages, the one for `p` makes a block of each paragraph
abbrev pub page_attributes : List AttrPair
page_attributes = record { name = numbered_name 5; value = codes "body" } ∷ []

abbrev pub page_body : Instructions
page_body =
    instruction.element (numbered_name 2) []
    (instruction.element (numbered_name 3) []
    (instruction.element (numbered_name 4) page_attributes (instruction.apply_templates instruction.nothing) instruction.nothing)
    instruction.nothing)
    instruction.nothing

abbrev pub block_body : Instructions
block_body = instruction.element (numbered_name 6) [] (instruction.text (codes "x:") (instruction.apply_templates instruction.nothing)) instruction.nothing

abbrev pub worked_style : StyleValue
worked_style = record {
  rules = rule_at 0 pattern.Root ∷ rule_at 1 (pattern.Named (numbered_name 1)) ∷ [];
  bodies = page_body ∷ block_body ∷ [];
}

-- `<doc><p>oak</p><p/></doc>`
abbrev pub worked_source : Source
worked_source = record {
  tree = node 0 Root
      (node 1 (Element (numbered_name 0) [])
      (node 2 (Element (numbered_name 1) []) (node 3 (Text (codes "oak")) none none)
      (node 4 (Element (numbered_name 1) []) none none))
      none)
      none;
  made = 4;
  spaces = [];
}

abbrev pub worked_result : List Mark
worked_result =
    Begin (numbered_name 2) 0 ∷ Begin (numbered_name 3) 0 ∷ Begin (numbered_name 4) 0
    ∷ Attr (numbered_name 5) ∷ Run (codes "body") (origin.Fixed 0) ∷ AttrEnd
    ∷ Begin (numbered_name 6) 1 ∷ Run (codes "x:") (origin.Fixed 1) ∷ Run (codes "oak") (origin.Text (named 3) 0) ∷ Finish
    ∷ Begin (numbered_name 6) 1 ∷ Run (codes "x:") (origin.Fixed 1) ∷ Run [] (origin.Into (named 4)) ∷ Finish
    ∷ Finish ∷ Finish ∷ Finish ∷ []
