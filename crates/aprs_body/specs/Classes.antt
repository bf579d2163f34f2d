-- The classes of a body, a bit each (aprs-is.net, Server-side Filter Commands, Type filter).
use Rattle.std.specs.Prelude.{ℕ}

abbrev pub position_bit : ℕ
position_bit = 1

abbrev pub object_bit : ℕ
object_bit = 2

abbrev pub item_bit : ℕ
item_bit = 4

abbrev pub message_bit : ℕ
message_bit = 8

abbrev pub query_bit : ℕ
query_bit = 16

abbrev pub status_bit : ℕ
status_bit = 32

abbrev pub telemetry_bit : ℕ
telemetry_bit = 64

abbrev pub user_bit : ℕ
user_bit = 128

abbrev pub nws_bit : ℕ
nws_bit = 256

abbrev pub weather_bit : ℕ
weather_bit = 512
