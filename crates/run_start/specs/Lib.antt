-- What fault runs and switching runs begin with, and the time of their steps
pub mod Start
