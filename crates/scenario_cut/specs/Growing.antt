-- A list of values that grows at its end.
use Rattle.serde_json.specs.Data.{Items, no_items, item}

-- the items of the first list, and then those of the second
abbrev pub both : Items → Items → Items
both no_items more = more
both (item d ds) more = item d (both ds more)
