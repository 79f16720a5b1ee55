-- Whether the client of a request knows segments (lists of constraints that several strategies can refer to), by the version of the client
-- specification that the request names.
use Rattle.std.specs.Prelude.{ℕ, List, [], Bool, false, Option, Some, None, option_and_then}
use Rattle.std.specs.Ordering.{is_lt}
use Rattle.semver.specs.Parse.{Parts}
use Rattle.unl_constraints.specs.Version.{version_of, precedence}
use Rattle.unl_http_api.specs.declared.request.Request.{Request}
use Rattle.unl_http_api.specs.Route.{if_utf8}

-- The first version of the Unleash client specification whose clients know segments: 4.2.0.
abbrev pub first_with_segments : Parts
first_with_segments = (4, 2, 0, [], [])

-- The version parsed from the bytes. `None` if they are not the text of a full version of Semantic Versioning 2.0.0.
abbrev pub version_in : List ℕ → Option Parts
version_in bytes = option_and_then version_of (if_utf8 bytes)

-- Whether there is a version and its precedence is below 4.2.0.
abbrev pub is_before_segments : Option Parts → Bool
is_before_segments None = false
is_before_segments (Some version) = is_lt (precedence version first_with_segments)

-- Whether the request names a version of the client specification whose clients don't know segments.
abbrev pub knows_no_segments : Request → Bool
knows_no_segments q = is_before_segments (option_and_then version_in q.spec)
