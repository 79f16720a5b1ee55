-- The ranges of the values of options that were read.
use Rattle.std.specs.Prelude.{◌≡◌, ◌≤◌, ℕ, true, ⊤}
use Rattle.unl_words.specs.declared.words.EdgeArguments.{EdgeArguments}
use Rattle.unl_words.specs.declared.words.FollowArguments.{FollowArguments}
use Rattle.unl_words.specs.declared.words.UpstreamArguments.{UpstreamArguments}
use Rattle.unl_words.specs.declared.words.Words.{Words}
use Rattle.unl_context.specs.Limits.{is_within_limits}
use Rattle.unl_documents.specs.Texts.{is_name}
use Rattle.unl_words.specs.declared.words.Words.TheVariants.{Replay, Check, Edge, Upstream, Follow, Explain, Load}
use Rattle.unl_words.specs.Lists.{are_environments, are_own_tokens, are_tokens, are_upstream_tokens, fit_one_book, is_token}
use Rattle.unl_words.specs.Values.{is_address, is_line, is_secret}

-- The number is at least `least` and at most `most`.
abbrev pub IsWithin : ℕ → ℕ → ℕ → Type 0
IsWithin least most number = (least ≤ number) × (number ≤ most)

-- The values of the options of `edge` are in their ranges.
pub record IsEdge (arguments : EdgeArguments) : Type 0 where
  pub listens : IsWithin 1 65535 arguments.port
  pub asks : is_address arguments.upstream ≡ true
  pub shows : are_upstream_tokens arguments.upstream_tokens ≡ true
  pub knows : are_tokens arguments.tokens ≡ true
  pub named : is_line arguments.host ≡ true
  pub threads : IsWithin 1 16 arguments.workers
  pub seconds : IsWithin 1 3600 arguments.interval

-- The values of the options of `upstream` are in their ranges.
pub record IsUpstream (arguments : UpstreamArguments) : Type 0 where
  pub listens : IsWithin 1 65535 arguments.port
  pub hides : is_secret arguments.secret ≡ true
  pub named : are_environments arguments.environments ≡ true
  pub clients : are_own_tokens arguments.client_tokens ≡ true
  pub frontends : are_own_tokens arguments.frontend_tokens ≡ true
  pub one_book : fit_one_book arguments.client_tokens arguments.frontend_tokens ≡ true

-- The values of the options of `follow` are in their ranges.
pub record IsFollow (arguments : FollowArguments) : Type 0 where
  pub asks : is_address arguments.upstream ≡ true
  pub shows : is_token true arguments.token ≡ true
  pub named : is_name arguments.feature ≡ true
  pub within : is_within_limits arguments.context ≡ true
  pub ends : IsWithin 1 1000000 arguments.turns
  pub seconds : IsWithin 1 3600 arguments.interval

-- The values of the options of `load` are in their ranges.
abbrev pub IsLoad : ℕ → Type 0
IsLoad count = IsWithin 1 1000000 count

-- The values of the command's options are in their ranges.
abbrev pub IsInRange : Words → Type 0
IsInRange Replay = ⊤
IsInRange (Check now word) = now ≤ 100000000000000
IsInRange (Edge arguments) = IsEdge arguments
IsInRange (Upstream arguments) = IsUpstream arguments
IsInRange (Follow arguments) = IsFollow arguments
IsInRange Explain = ⊤
IsInRange (Load seed count) = IsLoad count
