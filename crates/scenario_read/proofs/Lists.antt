-- A list that is an array of the reader's.
use Rattle.std.proofs.Common.{◌≡◌, ℕ, length, Vec, Global, ap, ◌∙◌}
use Rattle.serde_json.specs.View.{view, items_view}
use Rattle.serde_json.specs.declared.value.Value.{Value, Array}
use Rattle.serde_json.proofs.Views.{view-Array, items_len-items_view}
use Rattle.scenario_read.specs.Kinds.{Fits, within, list_fits, array_fits, items_in}

pub array_within : (least most : ℕ) (v : Vec Value Global) → list_fits least most (view (Array v)) ≡ within least most (length v.items)
array_within least most v = ap (list_fits least most) (view-Array v) ∙ ap (within least most) (items_len-items_view v.items)

pub array_items : (v : Vec Value Global) → items_in (view (Array v)) ≡ items_view v.items
array_items v = ap items_in (view-Array v)

pub any_array_fits : (v : Vec Value Global) → array_fits (view (Array v)) ≡ Fits
any_array_fits v = ap array_fits (view-Array v)
