-- Whether bytes are a request for the server's group.
use Rattle.std.specs.Prelude.{ℕ, ◌==◌, ◌&&◌, length, not, Bool}
use Rattle.std.specs.Char.{is_ascii_digit}
use Rattle.std.specs.Str.{bytes_eq}
use Rattle.sync_wire.specs.declared.request.SyncRequest.{SyncRequest}
use Rattle.peer_link.specs.Place.{file, group}

-- nothing of it is encrypted, it says from where on it asks, and it names the server's file and group
abbrev pub is_for_group : SyncRequest → Bool
is_for_group q = not q.encrypted && (not (length q.since == 0) && (bytes_eq q.file file && bytes_eq q.group group))

-- a byte that is no digit
abbrev pub is_no_digit : ℕ → Bool
is_no_digit b = not (is_ascii_digit b)
