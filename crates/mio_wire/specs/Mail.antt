-- Where datagrams are cast from.
use Rattle.std.specs.Prelude.{ℕ, nat_le, Option, Some, None, if◌then◌else◌}
use Rattle.aprs_base.specs.declared.packets.PortKind.{PortKind}
use Rattle.aprs_base.specs.declared.packets.PortKind.TheVariants as kind
use Rattle.mio_wire.specs.declared.mail.Caster.{Caster}

-- by the numbers of two listeners, the greater one
abbrev pub greater : Option Caster → Caster → Option Caster
greater None c = Some c
greater (Some other) c = if nat_le other.number c.number then Some c else Some other

-- after one more listener: a peer group's with the greatest number
abbrev pub caster_after : PortKind → (number place : ℕ) → Option Caster → Option Caster
caster_after kind.Core number place caster = greater caster (record { number = number; place = place })
caster_after kind.Full number place caster = caster
caster_after kind.Igate number place caster = caster
caster_after kind.Only number place caster = caster
caster_after kind.Dupe number place caster = caster
caster_after kind.Submit number place caster = caster
