-- How the arguments of a command line are read: what clap accepts, and the range of each value.
use Rattle.std.specs.Prelude.{◌≡◌, true, ◌-◌, ◌^◌, ℕ, List, [], ◌∷◌, codes, if◌then◌else◌, Option, Some, None, Result, Ok, Err, ok_or}
use Rattle.std.specs.List.{fold}
use Rattle.std.specs.Str.{bytes_eq}
use Rattle.clap.specs.Words.{App, Kinds, Row, Rule, Text, fault_of, first_of, matches_of, new_app, new_rule, takes, with_rule}
use Rattle.clap.specs.declared.builder.action.ArgAction.TheVariants.{Set}
use Rattle.unl_documents.specs.Results.{◌>>=◌, Gives}
use Rattle.unl_words.specs.Lists.{are_environments, are_own_tokens, are_tokens, are_upstream_tokens, environment_of, fit_one_book, items_of}
use Rattle.unl_words.specs.Lists.{token_of}
use Rattle.unl_words.specs.Values.{address_of, context_by, line_of, mode_or_delta, name_of, number_or, number_within, or_empty, passed}
use Rattle.unl_words.specs.Values.{placed, required, secret_of, sqlite_or_memory}
use Rattle.unl_words.specs.declared.refusal.WordsRefusal.{WordsRefusal}
use Rattle.unl_words.specs.declared.refusal.WordsRefusal.TheVariants.{Bad, Memory}
use Rattle.unl_words.specs.declared.words.Words.{Words}
use Rattle.unl_words.specs.declared.words.Words.TheVariants.{Replay, Check, Edge, Upstream, Follow, Explain, Load}

-- The command that the arguments name, or why they are refused.
abbrev pub WordsReading : Type 0
WordsReading = Result Words WordsRefusal

-- ---- commands

-- A command: its definition for clap, and how its values are read from the rows that clap finds. A row has what was found for one option.
pub record CommandDefinition : Type 0 where
  pub app : App
  pub asks : List Row → WordsReading

-- An option that takes one value after its long name.
abbrev pub option_named : Text → Rule
option_named name = record (new_rule name) { long = Some name; action = Some Set }

-- A required option that takes one value after its long name.
abbrev pub required_named : Text → Rule
required_named name = record (option_named name) { required = true }

-- A command with these options.
abbrev pub with_options : Text → List Rule → App
with_options name rules = fold with_rule (new_app name) rules

-- ---- replay

-- `replay` has no options.
unfoldable pub replay_app : App
replay_app = new_app (codes "replay")

-- The command `replay`, which reads lines of input and prints for each line how an edge responds to it.
abbrev pub replay : CommandDefinition
replay = record { app = replay_app; asks = λ rows. Ok Replay }

-- ---- check

-- `check` has options for the time in milliseconds and the random word of its evaluations.
unfoldable pub check_app : App
check_app = with_options (codes "check") (option_named (codes "now") ∷ option_named (codes "word") ∷ [])

-- The latest time that `check` accepts, in milliseconds since 1970. The limit is chosen by this project.
abbrev pub last_moment : ℕ
last_moment = 100000000000000

-- The greatest unsigned 64-bit number.
abbrev pub last_number : ℕ
last_number = 2 ^ 64 - 1

-- How `check` is read from the rows of values that clap finds. Each value defaults to 0.
unfoldable pub asks_check : List Row → WordsReading
asks_check rows = do
  now ← number_or 0 0 last_moment (first_of (codes "now") rows)
  word ← number_or 0 0 last_number (first_of (codes "word") rows)
  Ok (Check now word)

-- The command `check`, which runs the tests of test files in the format of the Unleash client specification.
abbrev pub check : CommandDefinition
check = record { app = check_app; asks = asks_check }

-- ---- edge

-- `edge` requires the address of its upstream, the tokens for the upstream, and the tokens that it accepts.
unfoldable pub edge_app : App
edge_app = with_options (codes "edge") (option_named (codes "port")
    ∷ required_named (codes "upstream") ∷ required_named (codes "upstream-tokens") ∷ required_named (codes "tokens")
    ∷ option_named (codes "host") ∷ option_named (codes "workers") ∷ option_named (codes "interval")
    ∷ option_named (codes "connections") ∷ option_named (codes "mode") ∷ [])

-- How `edge` is read from its rows of values.
unfoldable pub asks_edge : List Row → WordsReading
asks_edge rows = do
  port ← number_or 3063 1 65535 (first_of (codes "port") rows)
  workers ← number_or 4 1 16 (first_of (codes "workers") rows)
  interval ← number_or 15 1 3600 (first_of (codes "interval") rows)
  connections ← number_or 0 0 last_number (first_of (codes "connections") rows)
  delta ← mode_or_delta (first_of (codes "mode") rows)
  upstream ← required address_of (first_of (codes "upstream") rows)
  upstream_tokens ← required (items_of are_upstream_tokens) (first_of (codes "upstream-tokens") rows)
  tokens ← required (items_of are_tokens) (first_of (codes "tokens") rows)
  host ← or_empty line_of (first_of (codes "host") rows)
  Ok (Edge (record {
    port = port;
    upstream = upstream;
    upstream_tokens = upstream_tokens;
    tokens = tokens;
    host = host;
    workers = workers;
    interval = interval;
    connections = connections;
    delta = delta;
  }))

-- The command `edge`, which serves evaluations and polls its upstream.
abbrev pub edge : CommandDefinition
edge = record { app = edge_app; asks = asks_edge }

-- ---- upstream

-- `upstream` requires its secret and its environments.
unfoldable pub upstream_app : App
upstream_app = with_options (codes "upstream") (option_named (codes "port")
    ∷ required_named (codes "secret") ∷ required_named (codes "environments")
    ∷ option_named (codes "client-tokens") ∷ option_named (codes "frontend-tokens")
    ∷ option_named (codes "connections") ∷ option_named (codes "epoch") ∷ option_named (codes "keep") ∷ [])

-- How `upstream` is read from its rows of values.
unfoldable pub asks_upstream : List Row → WordsReading
asks_upstream rows = do
  port ← number_or 4242 1 65535 (first_of (codes "port") rows)
  connections ← number_or 0 0 last_number (first_of (codes "connections") rows)
  epoch ← number_or 0 0 last_number (first_of (codes "epoch") rows)
  sqlite ← sqlite_or_memory (first_of (codes "keep") rows)
  secret ← required secret_of (first_of (codes "secret") rows)
  environments ← required (items_of are_environments) (first_of (codes "environments") rows)
  client_tokens ← or_empty (items_of are_own_tokens) (first_of (codes "client-tokens") rows)
  frontend_tokens ← or_empty (items_of are_own_tokens) (first_of (codes "frontend-tokens") rows)
  passed (fit_one_book client_tokens frontend_tokens)
      (Upstream (record {
        port = port;
        secret = secret;
        environments = environments;
        client_tokens = client_tokens;
        frontend_tokens = frontend_tokens;
        connections = connections;
        epoch = epoch;
        sqlite = sqlite;
      }))

-- The command `upstream`, which accepts commands and serves the resulting state.
abbrev pub upstream : CommandDefinition
upstream = record { app = upstream_app; asks = asks_upstream }

-- ---- follow

-- `follow` requires its upstream, its token and its feature.
unfoldable pub follow_app : App
follow_app = with_options (codes "follow") (required_named (codes "upstream") ∷ required_named (codes "token")
    ∷ required_named (codes "feature") ∷ option_named (codes "context") ∷ option_named (codes "mode")
    ∷ option_named (codes "turns") ∷ option_named (codes "interval") ∷ [])

-- How `follow` is read from its rows of values. The context's environment is that of the token.
unfoldable pub asks_follow : List Row → WordsReading
asks_follow rows = do
  delta ← mode_or_delta (first_of (codes "mode") rows)
  turns ← number_or 1 1 1000000 (first_of (codes "turns") rows)
  interval ← number_or 15 1 3600 (first_of (codes "interval") rows)
  upstream ← required address_of (first_of (codes "upstream") rows)
  token ← required token_of (first_of (codes "token") rows)
  feature ← required name_of (first_of (codes "feature") rows)
  context ← or_empty context_by (first_of (codes "context") rows)
  Ok (Follow (record {
    upstream = upstream;
    token = token;
    feature = feature;
    context = placed (environment_of token) context;
    delta = delta;
    turns = turns;
    interval = interval;
  }))

-- The command `follow`, which polls an upstream turn by turn and prints after each turn whether one feature is on.
abbrev pub follow : CommandDefinition
follow = record { app = follow_app; asks = asks_follow }

-- ---- explain

-- `explain` has no options.
unfoldable pub explain_app : App
explain_app = new_app (codes "explain")

-- The command `explain`, which explains why a feature is on or off.
abbrev pub explain : CommandDefinition
explain = record { app = explain_app; asks = λ rows. Ok Explain }

-- ---- load

-- `load` requires its seed and its count.
unfoldable pub load_app : App
load_app = with_options (codes "load") (required_named (codes "seed") ∷ required_named (codes "count") ∷ [])

-- How `load` is read from its rows of values.
unfoldable pub asks_load : List Row → WordsReading
asks_load rows = do
  seed ← required (number_within 0 last_number) (first_of (codes "seed") rows)
  count ← required (number_within 1 1000000) (first_of (codes "count") rows)
  Ok (Load seed count)

-- The command `load`, which generates features and users, and evaluates the features for the users.
abbrev pub load : CommandDefinition
load = record { app = load_app; asks = asks_load }

-- ---- the first argument

-- The command with this name, or `None` if there is no such command.
abbrev pub command_named : Text → Option CommandDefinition
command_named name =
    if bytes_eq name (codes "replay") then Some replay
    else (if bytes_eq name (codes "check") then Some check
    else (if bytes_eq name (codes "edge") then Some edge
    else (if bytes_eq name (codes "upstream") then Some upstream
    else (if bytes_eq name (codes "follow") then Some follow
    else (if bytes_eq name (codes "explain") then Some explain
    else (if bytes_eq name (codes "load") then Some load else None))))))

-- The command that the first argument names, or `None` if there is no argument or it names no command.
unfoldable pub command_of : List Text → Option CommandDefinition
command_of [] = None
command_of (name ∷ arguments) = command_named name

-- ---- reading

-- The rows, if clap found no fault; otherwise the arguments are bad.
abbrev pub faultless : Kinds → List Row → Result (List Row) WordsRefusal
faultless [] rows = Ok rows
faultless (kind ∷ kinds) rows = Err Bad

-- The rows of values that clap finds in the arguments after the first, if it finds no fault.
unfoldable pub matched : App → List Text → Result (List Row) WordsRefusal
matched app arguments = faultless (fault_of app arguments) (matches_of app arguments)

-- The result of reading this command from the arguments after its name.
abbrev pub asked_of : CommandDefinition → List Text → WordsReading
asked_of command arguments = do
  rows ← matched command.app arguments
  command.asks rows

-- The command that the arguments name, with its values; or `Bad` if they name no command, clap finds a fault, or a value is refused.
unfoldable pub words_of : List Text → WordsReading
words_of arguments = do
  command ← ok_or (command_of arguments) Bad
  asked_of command arguments

-- If clap accepts the arguments for the command, the result is what `command.asks` returns for the values that clap finds, or it is
-- the error `Memory`.
abbrev pub DecidedByRanges : CommandDefinition → List Text → WordsReading → Type 0
DecidedByRanges command arguments result =
    takes command.app arguments ≡ true → Gives Memory result (command.asks (matches_of command.app arguments))
