-- The upstream that the options describe, before its first command.
use Rattle.std.specs.Prelude.{ℕ}
use Rattle.unl_upstream.specs.Upstream.{UpstreamState, opening}
use Rattle.unl_words.specs.OwnBook.{own_book}
use Rattle.unl_words.specs.declared.words.UpstreamArguments.{UpstreamArguments}

-- the initial upstream with these options and this boot number, which distinguishes a run of the program from others
abbrev pub upstream_of : ℕ → UpstreamArguments → UpstreamState
upstream_of boot options =
    opening boot options.secret options.environments (own_book options.client_tokens options.frontend_tokens) options.epoch
