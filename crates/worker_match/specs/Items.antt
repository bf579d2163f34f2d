-- What the items of a list are seen as.
use Rattle.std.specs.Prelude.{List, map, option_map}
use Rattle.std.specs.Arc.{arc_value}
use Rattle.worker_match.specs.declared.items.Item.{Item}
use Rattle.worker_match.specs.declared.items.Item.TheVariants as item
use Rattle.worker_match.specs.Seen.{ItemSeen, Told, ToldAll, Ended, Became, Came}

abbrev pub item_seen : Item → ItemSeen
item_seen (item.Text link line) = Told link (arc_value line)
item_seen (item.All line) = ToldAll (arc_value line)
item_seen (item.End link) = Ended link
item_seen (item.Session link feed me filter friends mine) =
    Became (record { link = link; feed = feed; me = me; filter = option_map arc_value filter; friends = friends.value; mine = mine })
item_seen (item.Packet packet dupe submitted known gate extra) =
    Came (record { packet = arc_value packet; dupe = dupe; submitted = submitted; known = known; gate = gate; extra = extra.items })

abbrev pub items_seen : List Item → List ItemSeen
items_seen items = map item_seen items
