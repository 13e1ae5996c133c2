-- What an item says (this project's own).
use Rattle.std.specs.Prelude.{ℕ}
use Rattle.result_origin.specs.Parts.{ResultPart, Says, Hole, Run, Begin, Attr, AttrEnd, Finish}
use Rattle.result_origin.specs.declared.items.Item.{Item}
use Rattle.result_origin.specs.declared.items.Item.TheVariants as item

-- each item is one part
abbrev pub part_of : Item → ResultPart ℕ
part_of (item.Run text origin) = Says (Run text origin)
part_of (item.Begin name rule) = Says (Begin name rule)
part_of (item.Attr name) = Says (Attr name)
part_of item.AttrEnd = Says AttrEnd
part_of item.Finish = Says Finish
part_of (item.Hole id) = Hole id
