-- Pages of lines (this project's own).
use Rattle.std.specs.Prelude.{ℕ, ◌-◌, ◌≤◌, List, take, drop, encode_utf8_all}
use Rattle.serna_kinds.specs.Texts.{IsPlaceIn}
use Rattle.result_origin.specs.declared.pages.Run.{Run}

-- a part of a run: what stands between two places of its text, in bytes
pub record PartValue : Type 0 where
  pub run : Run
  pub start : ℕ
  pub finish : ℕ

pub record IsPart (part : PartValue) : Type 0 where
  pub from : IsPlaceIn part.run.text part.start
  pub to : IsPlaceIn part.run.text part.finish
  pub ordered : part.start ≤ part.finish

-- the bytes that a part shows
abbrev pub shown_bytes : PartValue → List ℕ
shown_bytes part = take (part.finish - part.start) (drop part.start (encode_utf8_all part.run.text))
