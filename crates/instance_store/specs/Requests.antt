-- What an instance is asked for (XSLT 1.0, sections 5.1 and 5.4).
use Rattle.std.specs.Prelude.{ℕ, [], Option, None}
use Rattle.serna_kinds.specs.declared.cells.NameId.{NameId}
use Rattle.serna_kinds.specs.declared.cells.NodeRef.{NodeRef}
use Rattle.instance_store.specs.declared.request.Request.{Request}
use Rattle.instance_store.specs.declared.request.Place.{Place}
use Rattle.instance_store.specs.declared.request.Asked.{Asked}
use Rattle.instance_store.specs.declared.request.Call.TheVariants as call

-- templates are to be applied to a node in a mode, without parameters
abbrev pub apply_to : Option NameId → NodeRef → Request
apply_to mode node = record { node = node; mode = mode; call = call.Apply; rule = None; passed = [] }

-- a place among so many, from 1
abbrev pub place_at : ℕ → ℕ → Place
place_at position size = record { position = position; size = size }

-- a request at a place
abbrev pub asked_at : Request → Place → Asked
asked_at request place = record { request = request; place = place }
