use Rattle.std.proofs.Common.{length}
use Rattle.http_submit.proofs.requests.+length_of.Given as goal

abbrev pub decreases-length_of : goal.decreases-length_of
decreases-length_of l = length l.headers.now
