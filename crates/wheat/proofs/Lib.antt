mod Days
