-- Events that bring no bytes.
use Rattle.aprs_base.specs.declared.events.Event.{Event}
use Rattle.aprs_base.specs.declared.events.Event.TheVariants as event
use Rattle.mio_wire.specs.declared.briefs.Head.{Head}
use Rattle.mio_wire.specs.declared.briefs.Head.TheVariants as head

-- the event that tells so much, and brings no bytes
abbrev pub event_of : Head → Event
event_of (head.Tick moment) = event.Tick moment
event_of (head.Opened listener link from) = event.Opened listener link from
event_of (head.Joined uplink link at) = event.Joined uplink link at
event_of (head.Unjoined uplink) = event.Unjoined uplink
event_of (head.Ended link) = event.Ended link
event_of (head.Room link) = event.Room link
event_of head.Stop = event.Stop
