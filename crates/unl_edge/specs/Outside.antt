-- What the program's arguments ask of its endpoints: a database, a bound on connections, the address of the server to poll, the interval
-- between polls, and the number of threads that serve.
use Rattle.std.specs.Prelude.{ℕ, ◌*◌, Bool, false, List, [], Option, Some, None, nat_lt, option_map, unwrap_or, if◌then◌else◌}
use Rattle.unl_words.specs.declared.words.Words.{Words}
use Rattle.unl_words.specs.declared.words.Words.TheVariants.{Replay, Check, Edge, Explain, Follow, Load, Upstream}

-- whether these arguments ask for commands to be kept in a database
abbrev pub asks_for_database : Words → Bool
asks_for_database Replay = false
asks_for_database (Check now word) = false
asks_for_database (Edge edge) = false
asks_for_database (Upstream up) = up.sqlite
asks_for_database (Follow replica) = false
asks_for_database Explain = false
asks_for_database (Load seed count) = false

-- the count, or none if it is 0
abbrev pub if_any : ℕ → Option ℕ
if_any count = if nat_lt 0 count then Some count else None

-- the number of connections after which the listening port is closed, if the arguments set one
abbrev pub bound_asked : Words → Option ℕ
bound_asked Replay = None
bound_asked (Check now word) = None
bound_asked (Edge edge) = if_any edge.connections
bound_asked (Upstream up) = if_any up.connections
bound_asked (Follow replica) = None
bound_asked Explain = None
bound_asked (Load seed count) = None

-- the `HOST:PORT` of the server to poll, empty if the arguments name none
abbrev pub address_asked : Words → List ℕ
address_asked Replay = []
address_asked (Check now word) = []
address_asked (Edge edge) = edge.upstream
address_asked (Upstream up) = []
address_asked (Follow replica) = replica.upstream
address_asked Explain = []
address_asked (Load seed count) = []

-- the longest wait between two polls of the server, in nanoseconds, if the command polls a server (the argument is in seconds)
abbrev pub interval_asked : Words → Option ℕ
interval_asked Replay = None
interval_asked (Check now word) = None
interval_asked (Edge edge) = Some (edge.interval * 1000000000)
interval_asked (Upstream up) = None
interval_asked (Follow replica) = Some (replica.interval * 1000000000)
interval_asked Explain = None
interval_asked (Load seed count) = None

-- the number of threads that serve connections, besides the thread that accepts them; 0 if there are none
abbrev pub workers_asked : Words → ℕ
workers_asked Replay = 0
workers_asked (Check now word) = 0
workers_asked (Edge edge) = edge.workers
workers_asked (Upstream up) = 0
workers_asked (Follow replica) = 0
workers_asked Explain = 0
workers_asked (Load seed count) = 0

-- a value from the arguments, or `otherwise` if the arguments were refused
abbrev pub from_arguments : {A : Type 0} → A → (Words → A) → Option Words → A
from_arguments otherwise of words = unwrap_or (option_map of words) otherwise
