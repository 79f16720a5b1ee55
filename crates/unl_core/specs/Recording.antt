-- How the report of an answer changes the metrics book (the summed counts of reports), and the reply that is then sent.
use Rattle.std.specs.Prelude.{ℕ, List, codes, Option, Some, None, Result, Ok, Err}
use Rattle.unl_core.specs.Answer.{refusal}
use Rattle.unl_core.specs.declared.desk.Answer.{Answer}
use Rattle.unl_http_api.specs.declared.reply.Reply.{Reply}
use Rattle.unl_metrics.specs.Book.{Book, book_sum, if_fits}
use Rattle.unl_metrics.specs.declared.refusal.AddRefusal.{AddRefusal}
use Rattle.unl_metrics.specs.declared.report.Report.{Report}

-- The book with the report of an environment added, or the error `Full` if there is no room. Without a report or an
-- environment, the book itself.
abbrev pub summed : Book → Option Report → Option (List ℕ) → Result Book AddRefusal
summed book (Some report) (Some environment) = if_fits (book_sum book environment report)
summed book None environment = Ok book
summed book (Some report) None = Ok book

-- The given reply if there is a new book, otherwise the refusal 503 `MetricsFull`.
abbrev pub reply_where : Reply → Result Book AddRefusal → Reply
reply_where reply (Ok book) = reply
reply_where reply (Err cause) = refusal 503 (codes "MetricsFull")

-- The new book, or the old one if there is no new one.
abbrev pub book_where : Book → Result Book AddRefusal → Book
book_where old (Ok book) = book
book_where old (Err cause) = old

-- The final reply: the answer's own, or 503 `MetricsFull` if the book has no room for the answer's report.
abbrev pub final_reply : Book → Answer → Reply
final_reply book answer = reply_where answer.reply (summed book answer.report answer.environment)

-- The final book: with the answer's report added, or the old book if there is no room for it.
abbrev pub final_book : Book → Answer → Book
final_book book answer = book_where book (summed book answer.report answer.environment)
