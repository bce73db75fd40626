-- The wrong programs that the papers name, in one place: for each the theorem that its answer does not keep the promise
-- on concrete data. The edits beside them, which the prover refuses, are in must-fail/ of the crates named here.
-- Assumes nothing.

-- choosing from the first fraction alone, or refusing without a look at the grid: for Case A the first fraction is not
-- covered, so that both answer 5, and 300, 75, 20 is permitted
pub use Rattle.choosing.proofs.Refuted.{five_before_looking}
-- the best design of the least covered fraction: 301, 49, 20 is permitted and smaller
pub use Rattle.choosing.proofs.Refuted.{least_covered_fraction}
-- Case A's own listing as the choice, the choice by a bottom sludge with three digits of the root, a sheet of zeros, and ties
-- settled otherwise
pub use Rattle.choosing.proofs.Refuted.{case_a_listing, coarse_choice, sheet_of_zeros, ties_to_larger_fraction, ties_by_time_first, ties_to_longer_time, vertical_held_to_75}
-- the same answer to every candidate, 7 or Case A's sheet; the oxygen uptake rounded alike for capacity and aeration; the
-- sludge volume loading taken in the depth where the overflow rate is held: fields of one record
pub use Rattle.examining.proofs.WrongExaminers.{Refuted}
pub use Rattle.examining.proofs.Refuted.{refuted}
-- the dose of external carbon: 200 × dose in the cover or in the right column, its fifth rounded up, oxygen saved on
-- the whole nitrate or below 0, the dose taken off the nitrogen to nitrify or counted in the sludge, its range off by one:
-- fields of one record
pub use Rattle.examining.proofs.WrongDoses.{WrongDoses, wrong_doses}
-- the terms of the consent: 15 and 16 asked term by term, a difference of 0 refused, G not below 10 °C, K of a fraction under 200,
-- another fraction, U or rise of K than the term's, the dose left out, entries past the count looked at, 14 before 4; and of the
-- days: a term over the new year taken as empty, 29 February refused, 30 February accepted, equal days as a year, the highest
-- target, the first term in force: fields of two records
pub use Rattle.examining.proofs.WrongTerms.{WrongTerms, wrong_terms}
pub use Rattle.consents.proofs.Refuted.{WrongDays, wrong_days}
-- pauses in aeration: the rounded transfer divided again, 1000 − f outside the rounding, no pauses, pauses in every process, the
-- fraction of another candidate or of a term, the oxygen raised too: fields of one record
pub use Rattle.examining.proofs.WrongPauses.{WrongPauses, wrong_pauses}
-- the way by COD: one chain for all three, the other end of a range, two roundings as one, a negative difference wrapped; the dose in the
-- oxygen, counted at 10 mg/l, in part, not at all or before the degradable COD is held at 0; 4 still due, or no longer due by BOD; the
-- COD's oxygen for a pre-anoxic plant, K × C for a simultaneous one; phosphorus or nitrogen from COD; another temperature or fraction:
-- fields of two records; and "no design" because the largest fraction is not covered
pub use Rattle.examining.proofs.WrongWays.{WrongChains, wrong_chains, WrongWays, wrong_ways}
pub use Rattle.choosing.proofs.Refuted.{five_from_the_largest}
-- every candidate explained as off the grid, or by the figures of one; no rule found broken where one is; the dose left out
-- of the right column, or its parts exchanged; the design's columns for a term's
pub use Rattle.explaining.proofs.Refuted.{always_off_grid, one_candidate_explained, verdict_always_kept, dosed_columns, term_columns}
-- every page refused; a page left as it was, written past the listing's end, or written in part
pub use Rattle.listing.proofs.Refuted.{not_refused, not_untouched, not_past_the_end, not_in_part}
-- a listing's length by a fixed width of numerals, with 0 as no digit, without a refusal's second digit or the last newline, with a zero
-- byte at its end, 0 for a refusal, or the longest for all
pub use Rattle.listing.proofs.Refuted.{no_fixed_width, zero_has_a_digit, second_digit, last_newline, no_zero_byte, refusal_listed, not_the_longest}
-- a reading scaled in floating point, and other wrong conversions
pub use Rattle.accepting.proofs.Refuted.{float_product, tie_upwards, rounded_before_halving, minus_zero_lem, nan_let_through}
-- 17 at an index of 180, or not at 181 or 200; 17 after the 2 or 3 of a reading, or before 1: fields of one record
pub use Rattle.accepting.proofs.Refuted.{WrongIndex, wrong_index}
-- a census with a rule counted where an earlier one is broken, with the tank's rules before the fraction's, without the last
-- fraction, of vertical flow with 46 return ratios, or of refused data
pub use Rattle.census.proofs.Refuted.{earlier_rule_ignored, tank_before_fraction, last_fraction_left_out, vertical_with_46_ratios, refused_data_counted}
-- a two-week load with the last of equal windows, a window of 13 days, the arrays taken as pairs, the last day left out, day 0,
-- 13 before 12, or a length that wraps
pub use Rattle.loads.proofs.Refuted.{last_of_equal, window_of_13, arrays_as_pairs, last_day_left_out, day_0, value_before_length, wrapping_length}
-- existing tanks: only the ends of the span, one return ratio for all of it, the largest index lost, the built surface compared with the
-- site's, the plant's own index, a size, the site or the cover left out, and refusals in another order: fields of one record; and that
-- winning is not monotone in the index
pub use Rattle.existing.proofs.Refuted.{WrongTanks, wrong_tanks, not_monotone, each_by_its_own}
-- the price: the metre at a limit charged in the next band, both tanks as one volume, the surcharge per tank, per band or rounded down, 22
-- before the sheet's refusal, a price with a refusal, and tariffs just valid or just not: fields of one record; a choice by price
pub use Rattle.pricing.proofs.Refuted.{WrongPrices, wrong_prices, case_a_priced, chosen_by_price}
-- wrong statements about a looser limit: the same design, a smaller total, the site of a works in lines; and that a warmer plant keeps its
-- design, or that a lower sludge volume index takes no more
pub use Rattle.rules.proofs.LimitPairs.{OtherFraction, other_fraction, SameTotal, no_smaller_total, warmer_loses, LargerTotal, lower_index}
pub use Rattle.rules.proofs.LimitWorks.{larger_site_loses}
